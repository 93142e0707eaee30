-- A value that is read in few steps, for a walk.
use Rattle.std.specs.Prelude.{◌≡◌, ◌<◌, ◌≤◌, ℕ, ◌+◌, ◌^◌, List, ◌++◌, drop, length, Ok, Err, Some}
use Rattle.bson_elem.specs.declared.fault.BsonCause.TheVariants.{Text}
use Rattle.bson_elem.specs.declared.kinds.Kind.{Kind}
use Rattle.bson_elem.specs.declared.kinds.Kind.TheVariants.{String}
use Rattle.bson_elem.specs.{Value, a_leaf, fault, form_of, kind_of, string, text_value}
use Rattle.bson_elem.specs.Checks.{value_at}
use Rattle.byte_views.specs.declared.element.Element.{Element}
use Rattle.byte_views.specs.Elements.{value_place}

-- A value of this kind is read at the front, and takes n bytes. The element with it is e, and was
-- bare before.
pub record IsValueAt (depth at from : ℕ) (k : Kind) (rest : List ℕ) (bare e : Element)
    (n : ℕ) : Type 0 where
  pub value : Value
  pub after : List ℕ
  pub read : value_at depth at from (form_of k) rest ≡ Ok (value, after)
  pub size : n + length after ≡ length rest
  pub place : e ≡ value_place from (from + n) k bare value

-- The same; or the value is a string of these words, and its one fault is that they aren't UTF-8.
-- Then the element has the view of them.
pub data IsQuick (depth at from : ℕ) (k : Kind) (rest : List ℕ) (bare e : Element)
    (n : ℕ) : Type 0 where
  is_value : IsValueAt depth at from k rest bare e n → IsQuick depth at from k rest bare e n
  bad_text : (words after : List ℕ) → k ≡ String
      → value_at depth at from (form_of k) rest ≡ Err (fault at Text)
      → rest ≡ string words ++ after → length words + 1 < 2 ^ 31 → n ≡ length words + 5
      → e ≡ value_place from (from + n) k bare (a_leaf (text_value words))
      → IsQuick depth at from k rest bare e n

-- the same of the kind with this type byte
abbrev pub IsQuickly : ℕ → ℕ → ℕ → ℕ → List ℕ → Element → Element → ℕ → Type 0
IsQuickly depth at from byte rest bare e n =
    (k : Kind) × (kind_of byte ≡ Some k) × IsQuick depth at from k rest bare e n

-- all values of the kind with this type byte have n bytes, and any n bytes are one
abbrev pub HasSize : ℕ → ℕ → Type 0
HasSize byte n =
    (k : Kind) × (kind_of byte ≡ Some k)
    × ((depth at from : ℕ) (rest : List ℕ) → n ≤ length rest
    → (v : Value) × (value_at depth at from (form_of k) rest ≡ Ok (v, drop n rest)))
