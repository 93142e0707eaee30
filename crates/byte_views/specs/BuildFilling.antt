-- A pair whose value is written after its name.
use Rattle.std.specs.Prelude.{◌≡◌, ◌≤◌, ◌<◌, ℕ, ◌-◌, ◌^◌, List, if◌then◌else◌, length, nat_eq}
use Rattle.bson_elem.specs.declared.kinds.Kind.{Kind}
use Rattle.bson_elem.specs.{form_of, leaf_bytes}
use Rattle.bson_elem.specs.Spelling.{IsOfForm}
use Rattle.byte_views.specs.declared.build.builder.Builder.{Builder}
use Rattle.byte_views.specs.declared.build.built.Built.{Built}
use Rattle.byte_views.specs.declared.build.given.ValueNumbers.{ValueNumbers}
use Rattle.byte_views.specs.Appends.{IsPushedNamed, refused}
use Rattle.byte_views.specs.Numbers.{given_leaf}
use Rattle.byte_views.specs.Placing.{placed}

-- the room with the value written that ends the pairs, if the pair is put
abbrev pub filled : Built → Builder → List ℕ → List ℕ → List ℕ
filled w after value room =
    if nat_eq w.refusal 0 then placed (after.end - length value) value room else room

-- if the pair is put, the room has a place for a value of so many bytes
abbrev pub HasPlace : Built → Builder → ℕ → List ℕ → Type 0
HasPlace w after len room =
    w.refusal ≡ 0 → (len ≤ after.end) × (after.end ≤ length room) × (len < 2 ^ 31)

-- the value that is given is put as a pair of this kind, or not; or it isn't one of this kind
pub data IsLeafPushed (room : List ℕ) (b : Builder) (k : Kind) (name : List ℕ) (n : ValueNumbers)
    (text rest new : List ℕ) (after : Builder) : Built → Type 0 where
  is_leaf : {w : Built} → IsOfForm (form_of k) (given_leaf n text rest k)
      → IsPushedNamed room b k name (leaf_bytes (form_of k) (given_leaf n text rest k)) new after w
      → IsLeafPushed room b k name n text rest new after w
  no_leaf : {w : Built} → (IsOfForm (form_of k) (given_leaf n text rest k) → ⊥) → w ≡ refused 3
      → new ≡ room → after ≡ b → IsLeafPushed room b k name n text rest new after w
