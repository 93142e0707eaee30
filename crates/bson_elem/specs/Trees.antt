-- A document as a tree: its pairs of a name and a value, in order (bsonspec.org, version 1.1:
-- `e_list`).
use Rattle.std.specs.Prelude.{ℕ, ℤ, List, Bool}
use Rattle.bson_elem.specs.declared.kinds.Kind.{Kind}

-- a value that holds no document
pub data Leaf : Type 0 where
  -- bytes that this project doesn't interpret
  raw_value : List ℕ → Leaf
  boolean_value : Bool → Leaf
  number_value : ℤ → Leaf
  -- the increment and the seconds
  timestamp_value : ℕ → ℕ → Leaf
  text_value : List ℕ → Leaf
  -- the namespace and the ObjectId
  pointer_value : List ℕ → List ℕ → Leaf
  -- the subtype and the data; of subtype 02 without the inner count
  binary_value : ℕ → List ℕ → Leaf
  -- the pattern and the options
  regex_value : List ℕ → List ℕ → Leaf

-- what is beside the document in a value: nothing, or a code
pub data Beside : Type 0 where
  no_code : Beside
  -- the code whose scope the document is
  with_code : List ℕ → Beside

-- A list of pairs. A leaf pair has a name, a kind and a leaf. An inner pair has a name, a kind,
-- what is beside its document, and the pairs of that document. Either is followed by the other
-- pairs. The names in an array are kept.
pub data Tree : Type 0 where
  no_pairs : Tree
  leaf_pair : List ℕ → Kind → Leaf → Tree → Tree
  inner_pair : List ℕ → Kind → Beside → Tree → Tree → Tree
