-- What an update asks for: a document in the place of another one, or operators (MongoDB manual,
-- Update Operators).
use Rattle.std.specs.Prelude.{ℕ, List, [], ◌∷◌, Bool, true, false, ◌++◌, Option, Some}
use Rattle.std.specs.Prelude.{None, Result, Ok, Err, codes, is_some, if◌then◌else◌}
use Rattle.std.specs.Str.{bytes_eq}
use Rattle.bson_elem.specs.declared.kinds.Kind.TheVariants as kinds
use Rattle.bson_raw.specs.{TreeValue, document_value}
use Rattle.bson_doc.specs.{Pairs, pairs_of}
use Rattle.bson_doc.specs.Document.{tree_of, value_named}
use Rattle.doc_query.specs.declared.failure.CommandError.{CommandError}
use Rattle.doc_query.specs.declared.failure.CommandError.TheVariants as errors
use Rattle.doc_update.specs.declared.operators.Change.{Change}
use Rattle.doc_update.specs.declared.operators.Change.TheVariants.{Operate, Replace}
use Rattle.doc_update.specs.declared.operators.Operators.{Operators}
use Rattle.doc_query.specs.{and_then, begins_with_operator, is_operator, unless_fault}
use Rattle.doc_update.specs.Paths.{overlap_within, paths_fault, paths_of}
use Rattle.doc_update.specs.Increments.{number_of}

-- ---- names

-- whether the name is one of these
abbrev pub is_one_of : List ℕ → List (List ℕ) → Bool
is_one_of name [] = false
is_one_of name (n ∷ ns) = if bytes_eq name n then true else is_one_of name ns

-- the operators that are carried out
abbrev pub is_modifier : List ℕ → Bool
is_modifier name = is_one_of name (codes "$set" ∷ codes "$unset" ∷ codes "$inc" ∷ [])

abbrev pub are_modifiers : Pairs → Bool
are_modifiers [] = true
are_modifiers (f ∷ fs) = if is_modifier f.0 then are_modifiers fs else false

-- one of the names is that of an operator
abbrev pub names_operator : Pairs → Bool
names_operator [] = false
names_operator (f ∷ fs) = if is_operator f.0 then true else names_operator fs

-- ---- operators

-- the paths that an operator names, each with its operand, unless one isn't carried out
abbrev pub paths_in : Pairs → Result Pairs CommandError
paths_in fs = unless_fault (paths_fault fs) fs

abbrev pub operand_in : Option TreeValue → Result Pairs CommandError
operand_in None = Ok []
operand_in (Some (document_value kinds.Document b t)) = paths_in (pairs_of t)
operand_in (Some _) = Err errors.Modifiers

-- the paths that the operator of an update with this name names, or none if it isn't there
abbrev pub operand : List ℕ → Pairs → Result Pairs CommandError
operand name u = operand_in (value_named name u)

abbrev pub are_numbers : Pairs → Bool
are_numbers [] = true
are_numbers (f ∷ fs) = if is_some (number_of f.1) then are_numbers fs else false

-- those of $inc, each with the number that is added
abbrev pub increments_in : Pairs → Result Pairs CommandError
increments_in u =
    and_then (operand (codes "$inc") u) (λ fs.
    if are_numbers fs then Ok fs else Err errors.Increment)

-- two paths overlap, of one operator or of two
abbrev pub has_conflict : Operators → Bool
has_conflict o =
    overlap_within (paths_of o.set ++ (paths_of o.unset ++ paths_of o.increments))

abbrev pub unless_conflict : Operators → Result Operators CommandError
unless_conflict o = if has_conflict o then Err errors.Conflict else Ok o

abbrev pub operators_in : Pairs → Result Operators CommandError
operators_in u =
    if are_modifiers u
    then and_then (operand (codes "$set") u) (λ set.
    and_then (operand (codes "$unset") u) (λ unset.
    and_then (increments_in u) (λ increments.
    unless_conflict (record { set = set; unset = unset; increments = increments }))))
    else Err errors.Modifiers

-- ---- updates

abbrev pub replacement_in : Pairs → Result Pairs CommandError
replacement_in u = if names_operator u then Err errors.Modifiers else Ok u

-- what an update asks for; its first name says whether it is one of operators
abbrev pub change_in : Pairs → Result Change CommandError
change_in u =
    if begins_with_operator (tree_of u) then and_then (operators_in u) (λ o. Ok (Operate o))
    else and_then (replacement_in u) (λ d. Ok (Replace d))
