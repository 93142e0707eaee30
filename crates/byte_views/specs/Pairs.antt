-- The pairs of a document, as a caller gets them.
use Rattle.std.specs.Prelude.{◌≡◌, ℕ, ◌+◌, List, slice_range}
use Rattle.bson_elem.specs.declared.kinds.Kind.{Kind}
use Rattle.bson_elem.specs.{Beside, Fits, Leaf, Tree, binary_value, boolean_value, byte_of}
use Rattle.bson_elem.specs.{document, elements, no_code, no_pairs, number_value, pointer_value}
use Rattle.bson_elem.specs.{raw_value, regex_value, text_value, timestamp_value, with_code}
use Rattle.std.specs.Prelude.{◌*◌, ◌^◌}
use Rattle.std.specs.Int.{w64, cast_unsigned, from_bool}
use Rattle.bson_raw.specs.{TreeValue, document_value, leaf_value}
use Rattle.bson_raw.specs.Pairs.{with_first}
use Rattle.byte_views.specs.declared.element.Element.{Element}
use Rattle.byte_views.specs.declared.iter.ElementIter.{ElementIter}
use Rattle.byte_views.specs.Elements.{no_element, raw_bits}
use Rattle.byte_views.specs.Iters.{CanEnter, IsInside, inner_iter}
use Rattle.byte_views.specs.Views.{IsView}

-- the pairs from the walk's offset on are those of the tree
abbrev pub PairsFrom : List ℕ → ElementIter → Tree → Type 0
PairsFrom bytes s t =
    IsInside bytes s × Fits s.depth t × (slice_range bytes s.at s.end ≡ elements t)

-- the element shows this leaf: its bytes stand in the view, its number in the bits
abbrev pub ShowsLeaf : List ℕ → Element → Kind → Leaf → Type 0
ShowsLeaf bytes e k (raw_value part) = IsView bytes e.bytes part × (e.bits ≡ raw_bits k part)
ShowsLeaf bytes e k (boolean_value b) = e.bits ≡ from_bool b
ShowsLeaf bytes e k (number_value z) = e.bits ≡ cast_unsigned w64 z
ShowsLeaf bytes e k (timestamp_value increment seconds) = e.bits ≡ seconds * 2 ^ 32 + increment
ShowsLeaf bytes e k (text_value words) = IsView bytes e.text words
ShowsLeaf bytes e k (pointer_value namespace id) =
    IsView bytes e.text namespace × IsView bytes e.bytes id
ShowsLeaf bytes e k (binary_value subtype part) =
    (e.subtype ≡ subtype) × IsView bytes e.bytes part
ShowsLeaf bytes e k (regex_value pattern options) =
    IsView bytes e.text pattern × IsView bytes e.bytes options

abbrev pub ShowsBeside : List ℕ → Element → Beside → Type 0
ShowsBeside bytes e no_code = Unit {0}
ShowsBeside bytes e (with_code words) = IsView bytes e.text words

-- The element shows this value. A document in it can be entered, and its pairs are those of the
-- value's.
abbrev pub ShowsValue : List ℕ → ElementIter → Element → TreeValue → Type 0
ShowsValue bytes s e (leaf_value k leaf) = (e.kind ≡ byte_of k) × ShowsLeaf bytes e k leaf
ShowsValue bytes s e (document_value k b inner) =
    (e.kind ≡ byte_of k) × ShowsBeside bytes e b × IsView bytes e.bytes (document (elements inner))
    × CanEnter s e × PairsFrom bytes (inner_iter s.depth e.bytes) inner

-- There is no pair, and none is given; or the first pair is given, and the pairs after it are left.
pub data GivesNext (bytes : List ℕ) (s : ElementIter) (e : Element) (after : ElementIter)
    (t : Tree) : Type 0 where
  no_more : t ≡ no_pairs → e ≡ no_element → after ≡ s → GivesNext bytes s e after t
  gives : (name : List ℕ) (v : TreeValue) (others : Tree) → t ≡ with_first name v others
      → IsView bytes e.name name → ShowsValue bytes s e v → PairsFrom bytes after others
      → GivesNext bytes s e after t
