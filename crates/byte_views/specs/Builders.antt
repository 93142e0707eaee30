-- A document or an array that is built in the room of a caller.
use Rattle.std.specs.Prelude.{◌≡◌, ◌≤◌, ◌<◌, ℕ, ◌+◌, ◌^◌, List, ◌∷◌, ◌++◌, length}
use Rattle.std.specs.Prelude.{Bool, nat_eq}
use Rattle.bson_elem.specs.declared.kinds.Kind.{Kind}
use Rattle.bson_elem.specs.{Fits, Tree, byte_of, cstring, elements}
use Rattle.bson_raw.specs.{name_at, names_of}
use Rattle.byte_views.specs.declared.build.builder.Builder.{Builder}

-- the pairs that are appended are those of an array
abbrev pub in_array : Builder → Bool
in_array b = nat_eq b.kind 4

-- the name of the next pair: in an array its index, elsewhere the one that is given
abbrev pub next_name : Builder → List ℕ → List ℕ
next_name b name = name_at (in_array b) b.count name

-- From the builder's start on, the room holds four bytes for the length, and the pairs of the tree.
-- Behind them it has a byte for the end of each container that is open.
pub record Builds (room : List ℕ) (b : Builder) (t : Tree) : Type 0 where
  pub before : List ℕ
  pub four : List ℕ
  pub behind : List ℕ
  pub room_is : room ≡ before ++ (four ++ (elements t ++ behind))
  pub start_is : length before ≡ b.start
  pub four_are : length four ≡ 4
  pub end_is : b.end ≡ b.start + 4 + length (elements t)
  pub count_is : b.count ≡ length (names_of t)
  pub open_one : 1 ≤ b.depth
  pub not_deep : b.depth ≤ 200
  pub ends : b.depth ≤ length behind
  pub short : b.end + b.depth < 2 ^ 31
  pub fits : Fits b.depth t

-- the numbers of the builder are in range
pub record IsInRange (b : Builder) : Type 0 where
  pub begun : b.start + 4 ≤ b.end
  pub short : b.end < 2 ^ 31
  pub counted : b.count ≤ b.end
  pub open_one : 1 ≤ b.depth
  pub not_deep : b.depth ≤ 200

-- the bytes of a pair of this kind and name, whose value has these bytes
abbrev pub pair_bytes : Kind → List ℕ → List ℕ → List ℕ
pair_bytes k name value = byte_of k ∷ (cstring name ++ value)

-- the builder with a pair of this many bytes more
abbrev pub longer : Builder → ℕ → Builder
longer b size = record b { end = b.end + size; count = b.count + 1 }
