-- What an item, read from the bytes of a checked document, holds of the tree.
use Rattle.std.specs.Prelude.{◌≡◌}
use Rattle.bson_elem.specs.declared.kinds.Kind.{Kind}
use Rattle.bson_elem.specs.declared.kinds.Kind.TheVariants as kinds
use Rattle.bson_elem.specs.declared.items.Item.{Item}
use Rattle.bson_elem.specs.declared.items.Item.TheVariants as items
use Rattle.bson_elem.specs.{Spells, Tree, Value, a_leaf, item_kind, item_value, no_code, opens}
use Rattle.bson_elem.specs.{with_code}
use Rattle.bson_raw.specs.Pairs.{TreeValue, leaf_value, document_value}
use Rattle.bson_raw.specs.Spelled.{IsSpelled}

-- the value of the tree is this leaf, of this kind
abbrev pub IsLeafOf : Kind → Value → TreeValue → Type 0
IsLeafOf kind (a_leaf leaf) v = v ≡ leaf_value kind leaf
IsLeafOf kind (opens q b body) v = ⊥

-- The item lends this value of the tree. The bytes of a document, an array or a scope spell the
-- tree that the value holds.
abbrev pub IsItemOf : Item → TreeValue → Type 0
IsItemOf (items.Document d) v =
    (inner : Tree) × (v ≡ document_value kinds.Document no_code inner) × Spells inner d.now
IsItemOf (items.Array d) v =
    (inner : Tree) × (v ≡ document_value kinds.Array no_code inner) × Spells inner d.now
IsItemOf (items.CodeWithScope s d) v =
    (inner : Tree) × (v ≡ document_value kinds.CodeWithScope (with_code s.now) inner)
    × Spells inner d.now
IsItemOf item v = IsLeafOf (item_kind item) (item_value 0 item) v

-- if the item holds a document, its bytes spell a tree
abbrev pub HoldsSpelled : Item → Type 0
HoldsSpelled (items.Document d) = ∥ IsSpelled d.now ∥₁
HoldsSpelled (items.Array d) = ∥ IsSpelled d.now ∥₁
HoldsSpelled (items.CodeWithScope s d) = ∥ IsSpelled d.now ∥₁
HoldsSpelled _ = Unit {0}
