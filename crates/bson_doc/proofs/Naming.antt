-- Where the names are canonical, the tree is in canonical form.
use Rattle.std.proofs.Common.{◌≡◌, ℕ, ◌+◌, Bool, true, false, refl}
use Rattle.std.specs.Prelude.{◌&&◌}
use Rattle.std.proofs.lemmas.Slice.Eq.{bytes_eq-Decides}
use Rattle.bson_elem.specs.Trees.{Tree, no_pairs, leaf_pair, inner_pair}
use Rattle.bson_raw.specs.Naming.{is_array_kind, name_at}
use Rattle.bson_doc.specs.Plain.{plain_from}
use Rattle.bson_raw.specs.Naming.{is_named, is_plain}

both : (a b : Bool) → (a && b) ≡ true → (a ≡ true) × (b ≡ true)
both true b e = (refl, e)
both false b e = absurd cc

pub plain_where_named : (in_array : Bool) (index : ℕ) (t : Tree) → is_plain in_array index t ≡ true → plain_from in_array index t ≡ t
plain_where_named in_array index no_pairs e = refl
plain_where_named in_array index (leaf_pair name k v ps) e =
    let parts = both (is_named in_array index name) (is_plain in_array (index + 1) ps) e in
    let n : name ≡ name_at in_array index name = (bytes_eq-Decides name (name_at in_array index name)).0 parts.0 in
    let p = plain_where_named in_array (index + 1) ps parts.1 in
    cc
plain_where_named in_array index (inner_pair name k b inner ps) e =
    let parts = both (is_named in_array index name) (is_plain (is_array_kind k) 0 inner && is_plain in_array (index + 1) ps) e in
    let more = both (is_plain (is_array_kind k) 0 inner) (is_plain in_array (index + 1) ps) parts.1 in
    let n : name ≡ name_at in_array index name = (bytes_eq-Decides name (name_at in_array index name)).0 parts.0 in
    let i = plain_where_named (is_array_kind k) 0 inner more.0 in
    let p = plain_where_named in_array (index + 1) ps more.1 in
    cc

all_true : (a b : Bool) → a ≡ true → b ≡ true → (a && b) ≡ true
all_true a b e f = rw (e, f) refl

pub named_where_plain : (in_array : Bool) (index : ℕ) (t : Tree) → plain_from in_array index t ≡ t → is_plain in_array index t ≡ true
named_where_plain in_array index no_pairs same = refl
named_where_plain in_array index (leaf_pair name k v ps) same =
    let n : name ≡ name_at in_array index name = cc in
    let p : plain_from in_array (index + 1) ps ≡ ps = cc in
    all_true (is_named in_array index name) (is_plain in_array (index + 1) ps) ((bytes_eq-Decides name (name_at in_array index name)).1 n) (named_where_plain in_array (index + 1) ps p)
named_where_plain in_array index (inner_pair name k b inner ps) same =
    let n : name ≡ name_at in_array index name = cc in
    let i : plain_from (is_array_kind k) 0 inner ≡ inner = cc in
    let p : plain_from in_array (index + 1) ps ≡ ps = cc in
    all_true (is_named in_array index name) (is_plain (is_array_kind k) 0 inner && is_plain in_array (index + 1) ps) ((bytes_eq-Decides name (name_at in_array index name)).1 n)
    (all_true (is_plain (is_array_kind k) 0 inner) (is_plain in_array (index + 1) ps) (named_where_plain (is_array_kind k) 0 inner i) (named_where_plain in_array (index + 1) ps p))
