-- Cursors without those that are listed.
use Rattle.std.proofs.Common.{◌≡◌, ℕ, ℤ, List, refl}
use Rattle.std.specs.Prelude.{Some}
use Rattle.bson_elem.specs.{Tree}
use Rattle.bson_raw.specs.{TreeValue, document_value, leaf_value, with_first}
use Rattle.wire_share.specs.Needs.{id_of}
use Rattle.wire_share.specs.Routing.{without_id, without_ids}

-- the first value is taken out, and then the others
pub without_ids-first : (name : List ℕ) (v : TreeValue) (others : Tree) (t : List (ℤ × ℕ))
    → without_ids (with_first name v others) t ≡ without_ids others (without_id (id_of (Some v)) t)
without_ids-first name (leaf_value k l) others t = refl
without_ids-first name (document_value k b inner) others t = refl
