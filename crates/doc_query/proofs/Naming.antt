-- What is said of the pairs of a document, one pair after another.
use Rattle.std.proofs.Common.{◌≡◌, ℕ, ◌&&◌, List, Option, refl}
use Rattle.bson_elem.specs.{Tree}
use Rattle.bson_raw.specs.{TreeValue, document_value, leaf_value, with_first}
use Rattle.doc_query.specs.Conditions.{are_conditions, is_named_operand, meets_all, meets_named, operator_of}

pub are_conditions-with_first : (name : List ℕ) (v : TreeValue) (others : Tree) → are_conditions (with_first name v others) ≡ (is_named_operand (operator_of name) v && are_conditions others)
are_conditions-with_first name (leaf_value k v) others = refl
are_conditions-with_first name (document_value k b t) others = refl

pub meets_all-with_first : (name : List ℕ) (v : TreeValue) (others : Tree) (own : List (Option TreeValue)) → meets_all (with_first name v others) own ≡ (meets_named (operator_of name) own v && meets_all others own)
meets_all-with_first name (leaf_value k v) others own = refl
meets_all-with_first name (document_value k b t) others own = refl
