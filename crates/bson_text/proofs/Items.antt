-- Items that hold no document.
use Rattle.std.proofs.Common.{◌≡◌, ℕ, refl}
use Rattle.std.specs.Borrow.{Bor}
use Rattle.std.specs.Prelude.{List}
use Rattle.bson_elem.specs.declared.items.Item.{Item}
use Rattle.bson_elem.specs.declared.items.Item.TheVariants as items
use Rattle.bson_elem.specs.Items.{item_kind, item_value}
use Rattle.bson_elem.specs.Checks.{a_leaf}
use Rattle.bson_elem.specs.Trees.{Leaf}
use Rattle.bson_raw.specs.Held.{IsItemOf}
use Rattle.bson_raw.specs.Pairs.{leaf_value}

-- an item that holds no document is a leaf of its kind
abbrev pub IsLeafItem : ℕ → Item → Type 0
IsLeafItem next item = (leaf : Leaf) × (item_value next item ≡ a_leaf leaf) × IsItemOf item (leaf_value (item_kind item) leaf)

pub leaf_item : (next : ℕ) (item : Item) → ((d : Bor (List ℕ)) → item ≡ items.Document d → ⊥) → ((d : Bor (List ℕ)) → item ≡ items.Array d → ⊥)
    → ((s d : Bor (List ℕ)) → item ≡ items.CodeWithScope s d → ⊥) → IsLeafItem next item
leaf_item next (items.Double b) no_document no_array no_scope = (_, refl, refl)
leaf_item next (items.String s) no_document no_array no_scope = (_, refl, refl)
leaf_item next (items.Document d) no_document no_array no_scope = absurd (no_document d refl)
leaf_item next (items.Array d) no_document no_array no_scope = absurd (no_array d refl)
leaf_item next (items.Binary subtype b) no_document no_array no_scope = (_, refl, refl)
leaf_item next items.Undefined no_document no_array no_scope = (_, refl, refl)
leaf_item next (items.ObjectId b) no_document no_array no_scope = (_, refl, refl)
leaf_item next (items.Boolean b) no_document no_array no_scope = (_, refl, refl)
leaf_item next (items.DateTime n) no_document no_array no_scope = (_, refl, refl)
leaf_item next items.Null no_document no_array no_scope = (_, refl, refl)
leaf_item next (items.Regex p o) no_document no_array no_scope = (_, refl, refl)
leaf_item next (items.DbPointer namespace id) no_document no_array no_scope = (_, refl, refl)
leaf_item next (items.Code s) no_document no_array no_scope = (_, refl, refl)
leaf_item next (items.Symbol s) no_document no_array no_scope = (_, refl, refl)
leaf_item next (items.CodeWithScope s d) no_document no_array no_scope = absurd (no_scope s d refl)
leaf_item next (items.Int32 n) no_document no_array no_scope = (_, refl, refl)
leaf_item next (items.Timestamp i s) no_document no_array no_scope = (_, refl, refl)
leaf_item next (items.Int64 n) no_document no_array no_scope = (_, refl, refl)
leaf_item next (items.Decimal128 b) no_document no_array no_scope = (_, refl, refl)
leaf_item next items.MinKey no_document no_array no_scope = (_, refl, refl)
leaf_item next items.MaxKey no_document no_array no_scope = (_, refl, refl)
