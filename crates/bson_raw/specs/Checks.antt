-- What the parts of the check find.
use Rattle.std.specs.Prelude.{◌≡◌, ℕ, Bool, ◌&&◌, List, ◌∷◌, [], ◌++◌, length}
use Rattle.bson_elem.specs.{Beside, Fits, Leaf, Tree, Value, a_leaf, elements, opens}
use Rattle.bson_raw.specs.Naming.{is_plain}
use Rattle.bson_raw.specs.Pairs.{names_of}

abbrev pub IsLeaf : Value → Type 0
IsLeaf part = (v : Leaf) × (part ≡ a_leaf v)

-- the part is a document that begins at this offset
abbrev pub Opens : ℕ → Value → Type 0
Opens q part = (b : Beside) × (body : List ℕ) × (part ≡ opens q b body)

-- The bytes are the elements of a tree in a container at this depth. The last argument says
-- whether its names are canonical.
abbrev pub IsTree : ℕ → Bool → List ℕ → Bool → Type 0
IsTree depth in_array bytes canonical =
    (t : Tree) × Fits depth t × (bytes ≡ elements t) × (canonical ≡ is_plain in_array 0 t)

-- The bytes are the pair at this index of a container, which takes n bytes, and then the rest.
-- `before` says whether the names of all earlier pairs are canonical, and `canonical` says so of
-- those and this one.
pub record IsPair (depth : ℕ) (in_array : Bool) (index : ℕ) (bytes : List ℕ) (n : ℕ)
    (rest : List ℕ) (before canonical : Bool) : Type 0 where
  pub pair : Tree
  pub name : List ℕ
  pub is_one : names_of pair ≡ name ∷ []
  pub fits : Fits depth pair
  pub parts : bytes ≡ elements pair ++ rest
  pub size : length (elements pair) ≡ n
  pub named : canonical ≡ (before && is_plain in_array index pair)
