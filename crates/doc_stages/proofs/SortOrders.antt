-- The orders of places and of documents are total.
use Rattle.std.proofs.Common.{ℕ, Bool, true, false, cond, List, Ordering, refl}
use Rattle.std.specs.Cmp.{IsTotalOrder}
use Rattle.std.specs.Ordering.{on}
use Rattle.std.proofs.lemmas.Cmp.{back_total, int_cmp_total, nat_cmp_total, nat_list_cmp_total, on_total, then_total}
use Rattle.bson_elem.specs.{Tree, inner_pair, leaf_pair, no_pairs}
use Rattle.bson_raw.specs.{TreeValue, document_value, leaf_value}
use Rattle.bson_doc.specs.Bson.{value_of}
use Rattle.doc_query.specs.Comparing.{PlaceView, field_order, field_place, place_order}
use Rattle.doc_stages.specs.Sorting.{field_in, is_down, key_order, keys_order}

pub place_total : IsTotalOrder place_order
place_total =
    then_total (on_total (λ (p : PlaceView). p.bracket) nat_cmp_total)
    (then_total (on_total (λ (p : PlaceView). p.number) int_cmp_total) (on_total (λ (p : PlaceView). p.bytes) nat_list_cmp_total))

by_field : (name : List ℕ) → IsTotalOrder (λ (v w : TreeValue). field_order (field_in name v) (field_in name w))
by_field name = on_total (λ (v : TreeValue). field_place (field_in name v)) place_total

directed : {A : Type 0} (order : A → A → Ordering) (down : Bool) → IsTotalOrder order → IsTotalOrder (λ v w. cond down (order w v) (order v w))
directed order true total = back_total total
directed order false total = total

key_total : (name : List ℕ) (d : TreeValue) → IsTotalOrder (key_order name d)
key_total name d = directed (λ (v w : TreeValue). field_order (field_in name v) (field_in name w)) (is_down d) (by_field name)

pub keys_total : (keys : Tree) → IsTotalOrder (keys_order keys)
keys_total no_pairs = record { antisymm = λ v w. refl; trans = λ u v w p q. p; congr = λ u v w p. refl }
keys_total (leaf_pair n k d ps) = then_total (key_total n (leaf_value k d)) (keys_total ps)
keys_total (inner_pair n k b inner ps) = then_total (key_total n (document_value k b inner)) (keys_total ps)

pub documents_total : (keys : Tree) → IsTotalOrder (on value_of (keys_order keys))
documents_total keys = on_total value_of (keys_total keys)
