-- What writing some of the pairs of a tree leaves to be written.
use Rattle.std.specs.Prelude.{◌≡◌, ℕ, ◌+◌, List, [], ◌++◌, Option, None, Some}
use Rattle.bson_elem.specs.declared.kinds.Kind.{Kind}
use Rattle.bson_elem.specs.{Spells, Tree}
use Rattle.bson_raw.specs.{TreeValue, document_bytes, document_value, leaf_value}
use Rattle.text_writer.specs.{WritesOut}
use Rattle.byte_views.specs.declared.pickle.held.Held.{Held}
use Rattle.byte_views.specs.Pickles.{closing, leaf_pickle, names_in, opening, pairs_pickle}

-- the pickle of a value that holds no document
abbrev pub leaf_part : TreeValue → List ℕ
leaf_part (leaf_value k v) = leaf_pickle k v
leaf_part _ = []

-- The text is the pickle of the value, which holds no pairs; or its beginning, up to the pairs that
-- it holds.
abbrev pub IsFront : TreeValue → Option Held → List ℕ → Type 0
IsFront (leaf_value k v) None text = text ≡ leaf_pickle k v
IsFront (document_value k b inner) (Some h) text =
    (h.kind ≡ k) × Spells inner (document_bytes h.document) × (text ≡ opening k b)
IsFront _ _ text = ⊥

-- The pickle of the pairs of t is written up to the pairs of the first value that holds some, with
-- so many names. Those, what closes the value, and the other pairs of t are still to be written.
pub record StopsAt (holder : Kind) (t : Tree) (names : ℕ) (held : Held)
    (IsLeft : Tree → Type 0) (IsWritten : List ℕ → Type 0) : Type 0 where
  pub inner : Tree
  pub others : Tree
  pub text : List ℕ
  pub spelled : Spells inner (document_bytes held.document)
  pub left : IsLeft others
  pub written : IsWritten text
  pub whole : pairs_pickle holder t ≡ text ++ (pairs_pickle held.kind inner
      ++ (closing held.kind ++ pairs_pickle holder others))
  pub counted : names_in holder t ≡ names + (names_in held.kind inner + names_in holder others)
