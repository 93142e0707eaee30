-- The ids in the pairs of a document, one pair after another.
use Rattle.std.proofs.Common.{◌≡◌, ◌+◌, ◌++◌, ◌∙◌, ℕ, ℤ, List, [], ◌∷◌, ap, refl, sym}
use Rattle.bson_elem.specs.{Tree}
use Rattle.bson_raw.specs.{TreeValue, document_value, leaf_value, with_first}
use Rattle.replay.specs.Carried.{behind, pair_ids, with_id, with_ids}
use Rattle.replay.specs.Cursors.{id_now}
use Rattle.replay.specs.declared.cursors.Cursor.{Cursor}

abbrev pub Ids : Type 0
Ids = List (ℕ × ℤ)

-- some ids are written, and then others
pub ids_both : (cursors : List Cursor) (xs ys : Ids) (bytes : List ℕ) → with_ids cursors (xs ++ ys) bytes ≡ with_ids cursors ys (with_ids cursors xs bytes)
ids_both cursors [] ys bytes = refl
ids_both cursors (p ∷ xs) ys bytes = ids_both cursors xs ys (with_id (id_now cursors p.1) p.0 bytes)

first_ids : (ids : List ℕ → ℕ → TreeValue → Ids) (end : ℕ) (n : List ℕ) (v : TreeValue) (others : Tree) → pair_ids ids end (with_first n v others) ≡ ids n (behind end others) v ++ pair_ids ids end others
first_ids ids end n (leaf_value k v) others = refl
first_ids ids end n (document_value k b inner) others = refl

-- the ids of the first pair are written, and those of the others are left
pub pair_written : (ids : List ℕ → ℕ → TreeValue → Ids) (cursors : List Cursor) (end at : ℕ) (n : List ℕ) (v : TreeValue) (t others : Tree) (bytes after : List ℕ)
    → t ≡ with_first n v others → at ≡ behind end others → after ≡ with_ids cursors (ids n at v) bytes
    → with_ids cursors (pair_ids ids end others) after ≡ with_ids cursors (pair_ids ids end t) bytes
pair_written ids cursors end at n v t others bytes after e f g =
    ap (with_ids cursors (pair_ids ids end others)) g
    ∙ sym (ids_both cursors (ids n at v) (pair_ids ids end others) bytes)
    ∙ ap (λ (i : ℕ). with_ids cursors (ids n i v ++ pair_ids ids end others) bytes) f
    ∙ ap (λ (i : Ids). with_ids cursors i bytes) (sym (first_ids ids end n v others) ∙ ap (pair_ids ids end) (sym e))
