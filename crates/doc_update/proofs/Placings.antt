-- What steps make of an array.
use Rattle.std.proofs.Common.{◌≡◌, ℕ, List, ◌∷◌, Some, sym, ap, ◌∙◌}
use Rattle.bson_elem.specs.declared.kinds.Kind.TheVariants as kinds
use Rattle.bson_elem.specs.{no_code}
use Rattle.bson_raw.specs.{TreeValue, document_value}
use Rattle.bson_doc.specs.Array.{array_tree}
use Rattle.doc_query.specs.{steps}
use Rattle.doc_update.specs.Setting.{Making, placed, with_element}
use Rattle.doc_update.proofs.Owning.{values_of_array}

pub placed_array : (make : Making) (path s : List ℕ) (ss : List (List ℕ)) (elements vs : List TreeValue) → steps path ≡ s ∷ ss → elements ≡ vs
    → placed make (steps path) (Some (document_value kinds.Array no_code (array_tree 0 vs))) ≡ with_element (placed make ss) s elements
placed_array make path s ss elements vs cut same =
    ap (λ (l : List (List ℕ)). placed make l (Some (document_value kinds.Array no_code (array_tree 0 vs)))) cut
    ∙ ap (λ (l : List TreeValue). with_element (placed make ss) s l) (values_of_array 0 vs ∙ sym same)
