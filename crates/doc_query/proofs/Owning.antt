-- The values of an array, and how many pairs a document has.
use Rattle.std.proofs.Common.{◌≡◌, ℕ, suc, ◌+◌, List, [], ◌∷◌, length, refl, ap, ◌∙◌}
use Rattle.bson_raw.specs.{TreeValue, document_value, leaf_value, names_of}
use Rattle.bson_raw.proofs.Lemmas.{names_of-with_first}
use Rattle.bson_doc.specs.Array.{array_tree}
use Rattle.bson_doc.specs.Document.{tree_of}
use Rattle.doc_query.specs.Owned.{values_in}

pub values_of_array : (i : ℕ) (vs : List TreeValue) → values_in (array_tree i vs) ≡ vs
values_of_array i [] = refl
values_of_array i (leaf_value k v ∷ vs) = ap (λ (l : List TreeValue). leaf_value k v ∷ l) (values_of_array (i + 1) vs)
values_of_array i (document_value k b t ∷ vs) = ap (λ (l : List TreeValue). document_value k b t ∷ l) (values_of_array (i + 1) vs)

pub names_count : (ps : List (List ℕ × TreeValue)) → length (names_of (tree_of ps)) ≡ length ps
names_count [] = refl
names_count (p ∷ ps) = ap length (names_of-with_first p.0 p.1 (tree_of ps)) ∙ ap suc (names_count ps)
