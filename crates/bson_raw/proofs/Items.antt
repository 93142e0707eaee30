-- An item that was read from the elements of a tree lends a value of the tree.
use Rattle.std.proofs.Common.{◌≡◌, ℕ, List, length, ap, ◌∙◌, arith}
use mathlib.Core.Logic.{∥∥₁_map}
use Rattle.bson_elem.specs.declared.kinds.Kind.{Kind}
use Rattle.bson_elem.specs.declared.items.Item.{Item}
use Rattle.bson_elem.specs.declared.items.Item.TheVariants as items
use Rattle.bson_elem.specs.Trees.{Leaf, Beside, Tree}
use Rattle.bson_elem.specs.Spelling.{elements, document, Spells}
use Rattle.bson_elem.specs.Checks.{a_leaf, opens}
use Rattle.bson_elem.specs.Documents.{elements_of, IsFramed}
use Rattle.bson_elem.specs.Items.{item_kind, item_value, LendsFramed}
use Rattle.bson_raw.specs.Pairs.{TreeValue, leaf_value, document_value}
use Rattle.bson_raw.specs.Held.{IsItemOf, HoldsSpelled}
use Rattle.bson_raw.proofs.Inner.{fits_shallower}
use Rattle.bson_raw.proofs.Walks.{IsPartOf}

-- if a part is a leaf, so is the value
pub leaf_is : (k : Kind) (leaf : Leaf) (v : TreeValue) → IsPartOf k (a_leaf leaf) v → v ≡ leaf_value k leaf
leaf_is k leaf (leaf_value k' leaf') p = cc
leaf_is k leaf (document_value k' b inner) p = absurd (let no : a_leaf leaf ≡ opens p.1.0 b (elements inner) = p.1.1 in cc)

-- if a part is a document, its bytes spell the tree that the value holds
pub inner_is : (k : Kind) (q : ℕ) (b : Beside) (bytes : List ℕ) (v : TreeValue) → IsFramed bytes → IsPartOf k (opens q b (elements_of bytes)) v → (inner : Tree) × (v ≡ document_value k b inner) × Spells inner bytes
inner_is k q b bytes (leaf_value k' leaf) framed p = absurd cc
inner_is k q b bytes (document_value k' b' inner) framed p =
    let part : opens q b (elements_of bytes) ≡ opens p.1.0 b' (elements inner) = p.1.1 in
    let body : elements_of bytes ≡ elements inner = cc in
    let beside : b ≡ b' = cc in
    let whole : bytes ≡ document (elements inner) = framed ∙ ap document body in
    (inner, cc, record { parts = whole; short = omega (arith, ap length whole, p.3); fits = fits_shallower inner 2 1 (omega arith) p.2 })

pub is_item_of : (item : Item) (next : ℕ) (v : TreeValue) → LendsFramed item → IsPartOf (item_kind item) (item_value next item) v → IsItemOf item v
is_item_of (items.Document d) next v framed p = inner_is _ _ _ d.now v framed p
is_item_of (items.Array d) next v framed p = inner_is _ _ _ d.now v framed p
is_item_of (items.CodeWithScope s d) next v framed p = inner_is _ _ _ d.now v framed p
is_item_of _ next v framed p = leaf_is _ _ v p

-- what an item of a tree holds is spelled
pub all_spelled : (item : Item) → ∥ ((v : TreeValue) × IsItemOf item v) ∥₁ → HoldsSpelled item
all_spelled (items.Document d) is = ∥∥₁_map is (λ x. (x.1.0, x.1.2))
all_spelled (items.Array d) is = ∥∥₁_map is (λ x. (x.1.0, x.1.2))
all_spelled (items.CodeWithScope s d) is = ∥∥₁_map is (λ x. (x.1.0, x.1.2))
all_spelled _ is = tt
