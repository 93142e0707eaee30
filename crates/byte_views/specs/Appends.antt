-- What becomes of a pair that is to be appended.
use Rattle.std.specs.Prelude.{◌≡◌, ◌≤◌, ◌<◌, ℕ, ◌+◌, ◌^◌, List, length, Some, None, false}
use Rattle.bson_elem.specs.declared.kinds.Kind.{Kind}
use Rattle.bson_elem.specs.{Tree, form_of, leaf_bytes}
use Rattle.bson_elem.specs.Kinds.{kind_of}
use Rattle.bson_elem.specs.Spelling.{IsName, IsOfForm}
use Rattle.bson_raw.specs.{leaf_value}
use Rattle.bson_doc.specs.Appended.{with_pair_appended}
use Rattle.byte_views.specs.declared.build.builder.Builder.{Builder}
use Rattle.byte_views.specs.declared.build.built.Built.{Built}
use Rattle.byte_views.specs.declared.build.given.ValueNumbers.{ValueNumbers}
use Rattle.byte_views.specs.Builders.{Builds, IsInRange, in_array, longer, next_name, pair_bytes}
use Rattle.byte_views.specs.Numbers.{given_leaf}
use Rattle.byte_views.specs.Placing.{placed}

-- it is done, and so many bytes of room are wanted for it
abbrev pub done : ℕ → Built
done wanted = record { refusal = 0; wanted = wanted }

-- it isn't done, since so many bytes of room are wanted
abbrev pub no_room : ℕ → Built
no_room wanted = record { refusal = 5; wanted = wanted }

-- it isn't done, for the reason with this number
abbrev pub refused : ℕ → Built
refused number = record { refusal = number; wanted = 0 }

-- the room that is wanted for bytes behind the pairs, and for the ends of what is open
abbrev pub wanted_for : Builder → List ℕ → ℕ
wanted_for b part = b.end + length part + b.depth

-- The pair is put behind the others; or the room is too short, or the document would be too long,
-- and nothing changes.
pub data IsPushed (room : List ℕ) (b : Builder) (part new : List ℕ) (after : Builder)
    : Built → Type 0 where
  is_put : {w : Built} → wanted_for b part ≤ length room → wanted_for b part < 2 ^ 31
      → w ≡ done (wanted_for b part) → new ≡ placed b.end part room
      → after ≡ longer b (length part) → IsPushed room b part new after w
  too_short : {w : Built} → length room < wanted_for b part → wanted_for b part < 2 ^ 31
      → w ≡ no_room (wanted_for b part) → new ≡ room → after ≡ b → IsPushed room b part new after w
  too_large : {w : Built} → 2 ^ 31 ≤ wanted_for b part → w ≡ refused 253 → new ≡ room → after ≡ b
      → IsPushed room b part new after w

-- The pair is put behind the others, if there is room, in an array under the next index; or the
-- name isn't one, and nothing changes.
pub data IsPushedNamed (room : List ℕ) (b : Builder) (k : Kind) (name value new : List ℕ)
    (after : Builder) : Built → Type 0 where
  is_pushed : {w : Built} → IsName (next_name b name)
      → IsPushed room b (pair_bytes k (next_name b name) value) new after w
      → IsPushedNamed room b k name value new after w
  no_name : {w : Built} → in_array b ≡ false → (IsName name → ⊥) → w ≡ refused 2 → new ≡ room
      → after ≡ b → IsPushedNamed room b k name value new after w

-- The value that is given is appended as a pair, if the name is one and there is room; or, for the
-- first of these reasons, nothing changes: the numbers of the builder are out of range, no kind has
-- this number, or the value isn't one of its kind.
pub data IsAppended (room : List ℕ) (b : Builder) (name : List ℕ) (n : ValueNumbers)
    (text rest new : List ℕ) (after : Builder) : Built → Type 0 where
  is_named : {w : Built} (k : Kind) → IsInRange b → kind_of n.kind ≡ Some k
      → IsOfForm (form_of k) (given_leaf n text rest k)
      → IsPushedNamed room b k name (leaf_bytes (form_of k) (given_leaf n text rest k)) new after w
      → IsAppended room b name n text rest new after w
  out_of_range : {w : Built} → (IsInRange b → ⊥) → w ≡ refused 255 → new ≡ room → after ≡ b
      → IsAppended room b name n text rest new after w
  no_kind : {w : Built} → IsInRange b → kind_of n.kind ≡ None → w ≡ refused 1 → new ≡ room
      → after ≡ b → IsAppended room b name n text rest new after w
  no_value : {w : Built} (k : Kind) → IsInRange b → kind_of n.kind ≡ Some k
      → (IsOfForm (form_of k) (given_leaf n text rest k) → ⊥) → w ≡ refused 3 → new ≡ room
      → after ≡ b → IsAppended room b name n text rest new after w

-- the tree with the given value appended is built
abbrev pub AppendsLeaf : List ℕ → Builder → List ℕ → ValueNumbers → List ℕ → List ℕ → Builder
    → Tree → Type 0
AppendsLeaf new b name n text rest after t =
    (k : Kind) × (kind_of n.kind ≡ Some k)
    × Builds new after
    (with_pair_appended (next_name b name) (leaf_value k (given_leaf n text rest k)) t)
