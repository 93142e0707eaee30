-- A decimal128 that is held, value after value.
use Rattle.std.proofs.Common.{◌≡◌, ℕ, ◌+◌, Bool, ◌||◌, List, [], ◌∷◌, map, max, refl, sym, ap, ◌∙◌}
use Rattle.std.specs.List.{list_any}
use Rattle.std.specs.Fmt.{decimal}
use Rattle.bson_elem.specs.{Tree}
use Rattle.bson_raw.specs.{TreeValue, document_value, leaf_value, with_first}
use Rattle.bson_doc.specs.Array.{array_tree}
use Rattle.bson_doc.specs.Depths.{tree_depth, value_depth}
use Rattle.bson_doc.specs.Document.{tree_of}
use Rattle.doc_query.specs.Decimals.{decimal_within, holds_decimal}
use Rattle.doc_query.proofs.Depths.{depth-with_first}

within_first : (n : List ℕ) (v : TreeValue) (ps : Tree) → decimal_within (with_first n v ps) ≡ (holds_decimal v || decimal_within ps)
within_first n (leaf_value k x) ps = refl
within_first n (document_value k b t) ps = refl

pub within_document : (ps : List (List ℕ × TreeValue)) → decimal_within (tree_of ps) ≡ list_any holds_decimal (map (λ p. p.1) ps)
within_document [] = refl
within_document (p ∷ ps) = within_first p.0 p.1 (tree_of ps) ∙ ap (λ (b : Bool). holds_decimal p.1 || b) (within_document ps)

pub within_array : (i : ℕ) (vs : List TreeValue) → decimal_within (array_tree i vs) ≡ list_any holds_decimal vs
within_array i [] = refl
within_array i (v ∷ vs) = within_first (decimal i) v (array_tree (i + 1) vs) ∙ ap (λ (b : Bool). holds_decimal v || b) (within_array (i + 1) vs)

-- the values of a document are as deep as it
pub values_depth : (i : ℕ) (ps : List (List ℕ × TreeValue)) → tree_depth (array_tree i (map (λ p. p.1) ps)) ≡ tree_depth (tree_of ps)
values_depth i [] = refl
values_depth i (p ∷ ps) =
    depth-with_first (decimal i) p.1 (array_tree (i + 1) (map (λ p. p.1) ps))
    ∙ ap (max (value_depth p.1)) (values_depth (i + 1) ps)
    ∙ sym (depth-with_first p.0 p.1 (tree_of ps))
