-- A search passes an element that has another name.
use Rattle.std.proofs.Common.{◌≡◌, ◌≢◌, ℕ, ◌+◌, ◌-◌, ◌<◌, ◌≤◌, IfSome, Option, Some, List, [], ◌∷◌, length, get_or, drop, Ok, refl, sym, ap, subst, ◌∙◌, append_assoc, arith}
use Rattle.std.specs.Prelude.{slice_range}
use Rattle.std.proofs.Math.Seq.{get_or-append_seam}
use Rattle.std.proofs.lemmas.List.{get_or-drop, get_or-take, length-append}
use Rattle.bson_elem.specs.declared.kinds.Kind.{Kind}
use Rattle.bson_elem.specs.Kinds.{kind_of}
use Rattle.bson_elem.specs.Spelling.{IsBytes, cstring, little, string}
use Rattle.bson_elem.specs.Trees.{binary_value, boolean_value, number_value, pointer_value, raw_value, regex_value, text_value, timestamp_value}
use Rattle.bson_elem.specs.Checks.{Value, a_leaf, cstring_at, opens}
use Rattle.bson_elem.proofs.Lemmas.{IsBytes-drop, IsBytes-take, cstring_takes}
use Rattle.byte_views.specs.declared.element.Element.{Element}
use Rattle.byte_views.specs.declared.iter.ElementIter.{ElementIter}
use Rattle.byte_views.specs.declared.view.View.{View}
use Rattle.byte_views.specs.Elements.{bare, value_place}
use Rattle.byte_views.specs.Finding.{IsPassed}
use Rattle.byte_views.specs.Iters.{IsStep}
use Rattle.byte_views.specs.Quick.{IsQuick, bad_text, is_value}
use Rattle.byte_views.specs.Views.{IsView}
use Rattle.byte_views.proofs.Places.{slice_size}

-- what holds of an option that is there
pub of_some : {A : Type 0} (P : A → Type 0) (r : Option A) (x : A) → r ≡ Some x → IfSome r P → P x
of_some {A} P r x is holds = subst (λ (q : Option A). IfSome q P) is holds

-- an element keeps its kind and its name as its value is put into it
abbrev Keeps : Element → Element → Type 0
Keeps e bare = (e.kind ≡ bare.kind) × (e.name ≡ bare.name)

value_keeps : (from next : ℕ) (k : Kind) (bare : Element) (v : Value) → Keeps (value_place from next k bare v) bare
value_keeps from next k bare (a_leaf (raw_value b)) = (refl, refl)
value_keeps from next k bare (a_leaf (boolean_value b)) = (refl, refl)
value_keeps from next k bare (a_leaf (number_value z)) = (refl, refl)
value_keeps from next k bare (a_leaf (timestamp_value i s)) = (refl, refl)
value_keeps from next k bare (a_leaf (text_value w)) = (refl, refl)
value_keeps from next k bare (a_leaf (pointer_value n i)) = (refl, refl)
value_keeps from next k bare (a_leaf (binary_value s b)) = (refl, refl)
value_keeps from next k bare (a_leaf (regex_value p o)) = (refl, refl)
value_keeps from next k bare (opens q b body) = (refl, refl)

quick_keeps : (depth at from n : ℕ) (k : Kind) (rest : List ℕ) (bare e : Element) → IsQuick depth at from k rest bare e n → Keeps e bare
quick_keeps depth at from n k rest bare e (is_value v) = subst (λ (x : Element). Keeps x bare) (sym v.place) (value_keeps from (from + n) k bare v.value)
quick_keeps depth at from n k rest bare e (bad_text words after is_string bad is short size e_is) = subst (λ (x : Element). Keeps x bare) (sym e_is) (value_keeps from (from + n) k bare (a_leaf (text_value words)))

-- a value is no longer than the bytes that it was read from
pub quick_fits : (depth at from n : ℕ) (k : Kind) (rest : List ℕ) (bare e : Element) → IsQuick depth at from k rest bare e n → n ≤ length rest
quick_fits depth at from n k rest bare e (is_value v) = omega (arith, v.size)
quick_fits depth at from n k rest bare e (bad_text words after is_string bad is short size e_is) =
    omega (arith, size, ap length is, length-append (string words) after, length-append (little (length words + 1)) (cstring words), length-append words (0 ∷ []))

-- no kind has the type byte 0
some_kind : (byte : ℕ) (k : Kind) → kind_of byte ≡ Some k → byte ≢ 0
some_kind byte k some zero = absurd (let none : kind_of 0 ≡ Some k = ap kind_of (sym zero) ∙ some in cc)

-- an element that was read in few steps, and has another name, is passed
pub passed_quick : (bytes name rest : List ℕ) (s : ElementIter) (e bare' : Element) (from n : ℕ) (k : Kind) (place : View) → IsStep bytes s e (from + n) → IsQuick s.depth s.at from k rest bare' e n → kind_of (get_or bytes s.at 0) ≡ Some k → bare' ≡ bare place (get_or bytes s.at 0) → (IsView bytes place name → ⊥) → IsPassed bytes name s (from + n)
passed_quick bytes name rest s e bare' from n k place step quick some bare_is other =
    let keeps = quick_keeps s.depth s.at from n k rest bare' e quick in
    let kind : e.kind ≡ get_or bytes s.at 0 = keeps.0 ∙ ap (λ (x : Element). x.kind) bare_is in
    let name_is : e.name ≡ place = keeps.1 ∙ ap (λ (x : Element). x.name) bare_is in
    (e, step, λ zero. some_kind (get_or bytes s.at 0) k some (sym kind ∙ zero), λ is. other (subst (λ (v : View). IsView bytes v name) name_is is))

-- a byte 00 follows the name of an element
pub zero_behind : (bytes name rest : List ℕ) (at end : ℕ) → IsBytes bytes → at ≤ end → end < length bytes → cstring_at (slice_range bytes at end) ≡ Ok (name, rest) → (at + length name < end) × (get_or bytes (at + length name) 0 ≡ 0)
zero_behind bytes name rest at end fits low within read =
    let tail : List ℕ = slice_range bytes at end in
    let t = cstring_takes tail (name, rest) (IsBytes-take (end - at) (drop at bytes) (IsBytes-drop at bytes fits)) read in
    let size : length tail ≡ end - at = slice_size bytes at end (omega (arith, within)) in
    let some : length name < end - at = omega (arith, size, ap length t.0.parts, length-append (cstring name) rest, length-append name (0 ∷ [])) in
    let at_zero : get_or tail (length name) 0 ≡ 0 = ap (λ (l : List ℕ). get_or l (length name) 0) (t.0.parts ∙ append_assoc name (0 ∷ []) rest) ∙ get_or-append_seam name 0 rest 0 in
    (omega (arith, some, low), sym (get_or-drop at bytes (length name) 0) ∙ sym (get_or-take (end - at) (drop at bytes) (length name) 0 some) ∙ at_zero)
