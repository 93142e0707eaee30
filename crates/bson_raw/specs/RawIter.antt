-- What the iterators over the pairs of a document and over the values of an array give.
use Rattle.std.specs.Prelude.{◌≡◌, ℕ, ◌-◌, ◌<◌, List, length, Option, Some, None}
use Rattle.std.specs.Borrow.{Bor}
use Rattle.bson_elem.specs.{Spells, Tree, no_pairs}
use Rattle.bson_raw.specs.declared.document.RawDocument.{RawDocument}
use Rattle.bson_raw.specs.declared.array.RawArray.{RawArray}
use Rattle.bson_raw.specs.declared.iter.RawIter.{RawIter}
use Rattle.bson_raw.specs.declared.iter.RawArrayIter.{RawArrayIter}
use Rattle.bson_raw.specs.declared.value.RawBson.{RawBson}
use Rattle.bson_raw.specs.RawDocument.{document_bytes}
use Rattle.bson_raw.specs.RawArray.{array_bytes}
use Rattle.bson_raw.specs.RawBson.{Shows, held_len}
use Rattle.bson_raw.specs.Left.{LeftIs}
use Rattle.bson_raw.specs.Pairs.{TreeValue, with_first}

-- The tree begins with a pair of this name and value, and the pairs after it are left.
pub record GivesFirst (t : Tree) (name : List ℕ) (value : RawBson)
    (IsLeft : Tree → Type 0) : Type 0 where
  pub tree_value : TreeValue
  pub others : Tree
  pub is_first : t ≡ with_first name tree_value others
  pub shown : Shows value tree_value
  pub left : IsLeft others

-- ---- the pairs of a document

-- the pairs that the iterator has left are those of the tree
abbrev pub PairsLeft : RawIter → Tree → Type 0
PairsLeft s t = LeftIs s.bytes.now s.offset t

-- the number of bytes of the document that the iterator goes over
abbrev pub walked_len : RawIter → ℕ
walked_len s = length s.bytes.now

-- the iterator has all pairs of the document left
abbrev pub BeginsAtFirstPair : RawDocument → RawIter → Type 0
BeginsAtFirstPair d s =
    ((t : Tree) → Spells t (document_bytes d) → PairsLeft s t)
    × (walked_len s ≡ length (document_bytes d))

-- a bound on how many pairs are left
abbrev pub pairs_bound : RawIter → ℕ
pairs_bound s = length s.bytes.now - s.offset

-- The first of the pairs left is returned, or `None` if none is left. A document in its value is
-- shorter than the document that the iterator goes over.
abbrev pub GivesPair : RawIter → Option (Bor (List ℕ) × RawBson) → RawIter → Type 0
GivesPair s None after = (t : Tree) → PairsLeft s t → t ≡ no_pairs
GivesPair s (Some x) after =
    ((t : Tree) → PairsLeft s t → GivesFirst t x.0.now x.1 (PairsLeft after))
    × (held_len x.1 < walked_len s)

-- One step of the iterator, in the same document. After the last pair the iterator doesn't change.
abbrev pub StepsTo : RawIter → Option (Bor (List ℕ) × RawBson) → RawIter → Type 0
StepsTo s given after =
    (walked_len after ≡ walked_len s) × GivesPair s given after × (given ≡ None → after ≡ s)

-- ---- the values of an array

-- the values that the iterator has left are those of the tree's pairs
abbrev pub ValuesLeft : RawArrayIter → Tree → Type 0
ValuesLeft s t = PairsLeft s.pairs t

-- the number of bytes of the array that the iterator goes over
abbrev pub walked_array_len : RawArrayIter → ℕ
walked_array_len s = walked_len s.pairs

-- the iterator has all values of the array left
abbrev pub BeginsAtFirstValue : RawArray → RawArrayIter → Type 0
BeginsAtFirstValue a s =
    ((t : Tree) → Spells t (array_bytes a) → ValuesLeft s t)
    × (walked_array_len s ≡ length (array_bytes a))

-- a bound on how many values are left
abbrev pub values_bound : RawArrayIter → ℕ
values_bound s = pairs_bound s.pairs

-- The first of the values left is returned, or `None` if none is left. A document in it is shorter
-- than the array that the iterator goes over.
abbrev pub GivesValue : RawArrayIter → Option RawBson → RawArrayIter → Type 0
GivesValue s None after = (t : Tree) → ValuesLeft s t → t ≡ no_pairs
GivesValue s (Some value) after =
    ((t : Tree) → ValuesLeft s t → (name : List ℕ) × GivesFirst t name value (ValuesLeft after))
    × (held_len value < walked_array_len s)

-- One step of the iterator, in the same array. After the last value the iterator doesn't change.
abbrev pub ValueStepsTo : RawArrayIter → Option RawBson → RawArrayIter → Type 0
ValueStepsTo s given after =
    (walked_array_len after ≡ walked_array_len s) × GivesValue s given after
    × (given ≡ None → after ≡ s)
