-- The conditions of filters: what the operators ask of a field (MongoDB manual, Query and
-- Projection Operators: Comparison, and Element).
use Rattle.std.specs.Prelude.{ℕ, ℤ, pos, List, [], ◌∷◌, Bool, true, false, not, ◌&&◌, ◌||◌, ◌==◌}
use Rattle.std.specs.Prelude.{Option, Some, None, codes, is_some, unwrap_or, if◌then◌else◌}
use Rattle.std.specs.List.{list_any}
use Rattle.std.specs.Ordering.{is_eq, is_ge, is_gt, is_le, is_lt}
use Rattle.std.specs.Str.{bytes_eq}
use Rattle.std.specs.declared.cmp.Ordering.{Ordering}
use Rattle.bson_elem.specs.declared.kinds.Kind.TheVariants as kinds
use Rattle.bson_elem.specs.{Tree, boolean_value, inner_pair, leaf_pair, no_pairs, raw_value}
use Rattle.bson_raw.specs.{TreeValue, document_value, leaf_value}
use Rattle.doc_query.specs.declared.conditions.Operator.{Operator}
use Rattle.doc_query.specs.declared.conditions.Operator.TheVariants as operators
use Rattle.doc_query.specs.Comparing.{PlaceView, place, place_order}
use Rattle.doc_query.specs.Decimals.{holds_decimal}
use Rattle.doc_query.specs.Equality.{equal}
use Rattle.doc_query.specs.Owned.{values_in}
use Rattle.doc_query.specs.Values.{int32}

-- the operator with this name
abbrev pub operator_of : List ℕ → Option Operator
operator_of name =
    if bytes_eq name (codes "$eq") then Some operators.Eq else
    if bytes_eq name (codes "$ne") then Some operators.Ne else
    if bytes_eq name (codes "$gt") then Some operators.Gt else
    if bytes_eq name (codes "$gte") then Some operators.Gte else
    if bytes_eq name (codes "$lt") then Some operators.Lt else
    if bytes_eq name (codes "$lte") then Some operators.Lte else
    if bytes_eq name (codes "$in") then Some operators.In else
    if bytes_eq name (codes "$nin") then Some operators.Nin else
    if bytes_eq name (codes "$exists") then Some operators.Exists else None

-- ---- operands

-- A value may be equal to others. A regex asks for a match in its place, nothing is compared to
-- undefined, and a decimal128 isn't compared, at any depth.
abbrev pub is_equated : TreeValue → Bool
is_equated (leaf_value kinds.Regex v) = false
is_equated (leaf_value kinds.Undefined v) = false
is_equated v = not (holds_decimal v)

abbrev pub are_equated : List TreeValue → Bool
are_equated [] = true
are_equated (v ∷ vs) = is_equated v && are_equated vs

-- a value may be less or greater than others of its bracket
abbrev pub is_ranked : TreeValue → Bool
is_ranked (leaf_value kinds.MinKey v) = false
is_ranked (leaf_value kinds.MaxKey v) = false
is_ranked (leaf_value kinds.Undefined v) = false
is_ranked v = is_some (place v)

abbrev pub is_list : TreeValue → Bool
is_list (document_value kinds.Array b t) = are_equated (values_in t)
is_list _ = false

-- the operand is one that the operator takes
abbrev pub is_operand : Operator → TreeValue → Bool
is_operand operators.Eq v = is_equated v
is_operand operators.Ne v = is_equated v
is_operand operators.In v = is_list v
is_operand operators.Nin v = is_list v
is_operand operators.Exists v = not (holds_decimal v)
is_operand _ v = is_ranked v

-- ---- one value

-- the operator asks for this order of a value and the operand
abbrev pub accepts : Operator → Ordering → Bool
accepts operators.Gt o = is_gt o
accepts operators.Gte o = is_ge o
accepts operators.Lt o = is_lt o
accepts operators.Lte o = is_le o
accepts _ o = is_eq o

-- Values are compared in one bracket alone. Those without a place may be equal.
abbrev pub passes_at : Operator → TreeValue → TreeValue → Option PlaceView → Option PlaceView → Bool
passes_at op own v (Some p) (Some q) = (p.bracket == q.bracket) && accepts op (place_order p q)
passes_at op own v None None = equal own v
passes_at op own v _ _ = false

abbrev pub passes : Operator → TreeValue → TreeValue → Bool
passes op own v = passes_at op own v (place own) (place v)

-- the value is equal to this number
abbrev pub is_number : ℤ → TreeValue → Bool
is_number z v = passes operators.Eq v (int32 z)

-- ---- the values of a field, of which None is one that is missing

abbrev pub null : TreeValue
null = leaf_value kinds.Null (raw_value [])

-- the values of an array
abbrev pub elements : TreeValue → List TreeValue
elements (document_value kinds.Array b t) = values_in t
elements _ = []

-- one of the values passes; a missing one is as null
abbrev pub finds : Operator → List (Option TreeValue) → TreeValue → Bool
finds op owns v = list_any (λ own. passes op (unwrap_or own null) v) owns

-- one equals one of these
abbrev pub finds_one : List (Option TreeValue) → List TreeValue → Bool
finds_one owns [] = false
finds_one owns (v ∷ vs) = finds operators.Eq owns v || finds_one owns vs

abbrev pub is_there : List (Option TreeValue) → Bool
is_there owns = list_any is_some owns

-- any value is true but for false, null, undefined and the number 0
abbrev pub is_true : TreeValue → Bool
is_true (leaf_value kinds.Boolean (boolean_value b)) = b
is_true (leaf_value kinds.Null v) = false
is_true (leaf_value kinds.Undefined v) = false
is_true v = not (passes operators.Eq v (int32 (pos 0)))

-- the values of a field are as the operator asks
abbrev pub meets : Operator → List (Option TreeValue) → TreeValue → Bool
meets operators.Ne owns v = not (finds operators.Eq owns v)
meets operators.In owns v = finds_one owns (elements v)
meets operators.Nin owns v = not (finds_one owns (elements v))
meets operators.Exists owns v = if is_true v then is_there owns else not (is_there owns)
meets op owns v = finds op owns v

-- ---- documents of operators

-- an operator is carried out with this operand
abbrev pub is_named_operand : Option Operator → TreeValue → Bool
is_named_operand None v = false
is_named_operand (Some op) v = is_operand op v

-- all pairs of a document are operators, each with an operand that it is carried out with
abbrev pub are_conditions : Tree → Bool
are_conditions no_pairs = true
are_conditions (leaf_pair n k v ps) =
    is_named_operand (operator_of n) (leaf_value k v) && are_conditions ps
are_conditions (inner_pair n k b inner ps) =
    is_named_operand (operator_of n) (document_value k b inner) && are_conditions ps

abbrev pub meets_named : Option Operator → List (Option TreeValue) → TreeValue → Bool
meets_named None owns v = false
meets_named (Some op) owns v = meets op owns v

-- the values of a field are as all the operators ask
abbrev pub meets_all : Tree → List (Option TreeValue) → Bool
meets_all no_pairs owns = true
meets_all (leaf_pair n k v ps) owns =
    meets_named (operator_of n) owns (leaf_value k v) && meets_all ps owns
meets_all (inner_pair n k b inner ps) owns =
    meets_named (operator_of n) owns (document_value k b inner) && meets_all ps owns
