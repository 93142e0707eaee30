-- Containers that are opened inside others, and ended.
use Rattle.std.specs.Prelude.{◌≡◌, ◌≢◌, ◌≤◌, ◌<◌, ℕ, ◌+◌, ◌-◌, ◌^◌, List, [], ◌∷◌, ◌++◌, length}
use Rattle.std.specs.Prelude.{Option, Some, None, take, if◌then◌else◌, nat_eq}
use Rattle.bson_elem.specs.declared.kinds.Kind.{Kind}
use Rattle.bson_elem.specs.declared.kinds.Kind.TheVariants as kinds
use Rattle.bson_elem.specs.{byte_of, cstring, form_of, little}
use Rattle.bson_elem.specs.Kinds.{document_form}
use Rattle.bson_elem.specs.Spelling.{IsName}
use Rattle.byte_views.specs.declared.build.builder.Builder.{Builder}
use Rattle.byte_views.specs.declared.build.built.Built.{Built}
use Rattle.byte_views.specs.Appends.{IsPushedNamed, done, no_room, refused}
use Rattle.byte_views.specs.Builders.{IsInRange}
use Rattle.byte_views.specs.Placing.{placed}

-- a document that begins at the front of a room, with no pairs
abbrev pub first_builder : Builder
first_builder = record { start = 0; end = 4; count = 0; depth = 1; kind = 3 }

-- the kind of a container that is opened: a document or an array
abbrev pub container_of : ℕ → Option Kind
container_of n =
    if nat_eq n 3 then Some kinds.Document else if nat_eq n 4 then Some kinds.Array else None

-- The inner container stands behind the pairs of the outer one, as the value of a pair of this kind
-- and name.
pub record StandsBehind (room : List ℕ) (outer inner : Builder) (k : Kind) (name : List ℕ)
    : Type 0 where
  pub head_is : take inner.start room ≡ take outer.end room ++ (byte_of k ∷ cstring name)
  pub start_is : inner.start ≡ outer.end + length name + 2
  pub deeper : inner.depth ≡ outer.depth + 1
  pub named : IsName name
  pub kind_is : form_of k ≡ document_form

-- the builder whose pairs one deeper container is put behind
abbrev pub deeper : Builder → Builder
deeper b = record b { depth = b.depth + 1 }

-- the container whose four bytes end where this builder does
abbrev pub opened : Builder → ℕ → Builder
opened b kind =
    record { start = b.end - 4; end = b.end; count = 0; depth = b.depth; kind = kind }

abbrev pub four_zeros : List ℕ
four_zeros = 0 ∷ 0 ∷ 0 ∷ 0 ∷ []

-- The container is opened; or it isn't, for the first of these reasons: the numbers of the outer
-- one are out of range, the kind is no container's, it would be deeper than 200, or a pair isn't
-- appended.
pub data IsBegun (room : List ℕ) (outer : Builder) (name : List ℕ) (kind : ℕ) (old : Builder)
    (new : List ℕ) (inner : Builder) : Built → Type 0 where
  is_open : {w : Built} (k : Kind) (after : Builder) → IsInRange outer → outer.depth < 200
      → container_of kind ≡ Some k
      → IsPushedNamed room (deeper outer) k name four_zeros new after w → w.refusal ≡ 0
      → inner ≡ opened after kind → IsBegun room outer name kind old new inner w
  is_shut : {w : Built} (k : Kind) (after : Builder) → IsInRange outer → outer.depth < 200
      → container_of kind ≡ Some k
      → IsPushedNamed room (deeper outer) k name four_zeros new after w → w.refusal ≢ 0
      → inner ≡ old → IsBegun room outer name kind old new inner w
  out_of_range : {w : Built} → (IsInRange outer → ⊥) → w ≡ refused 255 → new ≡ room
      → inner ≡ old → IsBegun room outer name kind old new inner w
  no_kind : {w : Built} → IsInRange outer → container_of kind ≡ None → w ≡ refused 1
      → new ≡ room → inner ≡ old → IsBegun room outer name kind old new inner w
  too_deep : {w : Built} (k : Kind) → IsInRange outer → container_of kind ≡ Some k
      → 200 ≤ outer.depth → w ≡ refused 4 → new ≡ room → inner ≡ old
      → IsBegun room outer name kind old new inner w

-- the room with the container's length and its last 00
abbrev pub closed : ℕ → ℕ → List ℕ → List ℕ
closed start end room = placed end (0 ∷ []) (placed start (little (end + 1 - start)) room)

-- the numbers of the builder are in range, with a byte for the end of each container that is open
pub record IsClosable (b : Builder) : Type 0 where
  pub in_range : IsInRange b
  pub short : b.end + b.depth < 2 ^ 31

-- the inner container is behind the outer one, and one deeper
pub record CanEnd (outer inner : Builder) : Type 0 where
  pub outer_is : IsInRange outer
  pub inner_is : IsClosable inner
  pub in_order : outer.end < inner.start
  pub deeper : inner.depth ≡ outer.depth + 1

abbrev pub with_inner : Builder → Builder → Builder
with_inner outer inner = record outer { end = inner.end + 1; count = outer.count + 1 }

-- The inner container is ended and is a pair of the outer one; or the room is too short for the
-- ends of all containers that are open; or the numbers are out of range.
pub data IsEnded (room : List ℕ) (outer inner : Builder) (new : List ℕ) (after : Builder)
    : Built → Type 0 where
  is_ended : {w : Built} → CanEnd outer inner → inner.end + inner.depth ≤ length room
      → new ≡ closed inner.start inner.end room → after ≡ with_inner outer inner
      → w ≡ done (inner.end + inner.depth) → IsEnded room outer inner new after w
  is_too_short : {w : Built} → CanEnd outer inner → length room < inner.end + inner.depth
      → w ≡ no_room (inner.end + inner.depth) → new ≡ room → after ≡ outer
      → IsEnded room outer inner new after w
  cannot_end : {w : Built} → (CanEnd outer inner → ⊥) → w ≡ refused 255 → new ≡ room
      → after ≡ outer → IsEnded room outer inner new after w

-- The document is ended; or the room is too short; or the numbers are out of range.
pub data IsFinished (room : List ℕ) (b : Builder) (new : List ℕ) : Built → Type 0 where
  is_finished : {w : Built} → IsClosable b → b.end + b.depth ≤ length room
      → new ≡ closed b.start b.end room → w ≡ done (b.end + 1) → IsFinished room b new w
  no_place : {w : Built} → IsClosable b → length room < b.end + b.depth
      → w ≡ no_room (b.end + b.depth) → new ≡ room → IsFinished room b new w
  cannot_finish : {w : Built} → (IsClosable b → ⊥) → w ≡ refused 255 → new ≡ room
      → IsFinished room b new w
