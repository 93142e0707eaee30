-- What is said of the keys of a sort, one key after another.
use Rattle.std.proofs.Common.{◌≡◌, ℕ, ◌&&◌, List, refl}
use Rattle.std.specs.Ordering.{ordering_then}
use Rattle.bson_elem.specs.{Tree}
use Rattle.bson_raw.specs.{TreeValue, document_value, leaf_value, with_first}
use Rattle.doc_stages.specs.Sorting.{are_keys, are_ordered, field_in, is_key, is_ordered, key_order, keys_order}

pub are_keys-with_first : (name : List ℕ) (v : TreeValue) (others : Tree) → are_keys (with_first name v others) ≡ (is_key name v && are_keys others)
are_keys-with_first name (leaf_value k v) others = refl
are_keys-with_first name (document_value k b t) others = refl

pub keys_order-with_first : (name : List ℕ) (d : TreeValue) (others : Tree) (v w : TreeValue) → keys_order (with_first name d others) v w ≡ ordering_then (key_order name d v w) (keys_order others v w)
keys_order-with_first name (leaf_value k d) others v w = refl
keys_order-with_first name (document_value k b t) others v w = refl

pub are_ordered-with_first : (name : List ℕ) (d : TreeValue) (others : Tree) (v : TreeValue) → are_ordered (with_first name d others) v ≡ (is_ordered (field_in name v) && are_ordered others v)
are_ordered-with_first name (leaf_value k d) others v = refl
are_ordered-with_first name (document_value k b t) others v = refl
