-- Codes for values, arrays and documents, by which a proof tells two of them apart.
use Rattle.std.specs.Prelude.{◌≡◌, ℕ, List, ◌⊎◌, refl}
use Rattle.std.proofs.Common.{inl, inr}
use Rattle.std.specs.Coded.{Coded, code_by, coded_list, coded×, coded⊎}
use Rattle.bson_elem.specs.declared.kinds.Kind.{Kind}
use Rattle.bson_elem.specs.{Beside, Leaf, Tree, coded_beside, coded_kind, coded_leaf, coded_text}
use Rattle.bson_elem.specs.{coded_tree}
use Rattle.bson_raw.specs.{TreeValue, document_value, leaf_value}

abbrev pub ValueParts : Type 0
ValueParts = (Kind × Leaf) ⊎ (Kind × (Beside × Tree))

abbrev pub value_parts : TreeValue → ValueParts
value_parts (leaf_value k v) = inl (k, v)
value_parts (document_value k b inner) = inr (k, (b, inner))

abbrev pub value_of_parts : ValueParts → TreeValue
value_of_parts (inl p) = leaf_value p.0 p.1
value_of_parts (inr p) = document_value p.0 p.1.0 p.1.1

pub value_again : (v : TreeValue) → value_of_parts (value_parts v) ≡ v
value_again (leaf_value k v) = refl
value_again (document_value k b inner) = refl

abbrev pub coded_value : Coded TreeValue
coded_value =
    code_by ValueParts
    (coded⊎ (coded× coded_kind coded_leaf) (coded× coded_kind (coded× coded_beside coded_tree)))
    value_parts value_of_parts value_again

-- a code for the values of an array: two arrays are equal where their codes are
abbrev pub coded_values : Coded (List TreeValue)
coded_values = coded_list coded_value

-- a code for the pairs of a document: two documents are equal where their codes are
abbrev pub coded_pairs : Coded (List (List ℕ × TreeValue))
coded_pairs = coded_list (coded× coded_text coded_value)
