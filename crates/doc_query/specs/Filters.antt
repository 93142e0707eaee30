-- Filters: which ones are accepted, and which documents match them.
use Rattle.std.specs.Prelude.{ℕ, List, [], ◌∷◌, Bool, true, false, not, ◌&&◌, ◌||◌, ◌==◌}
use Rattle.std.specs.Prelude.{Option, Some, None, Result, Ok, Err, codes, is_some, if◌then◌else◌}
use Rattle.std.specs.List.{list_any}
use Rattle.std.specs.Option.{option_or}
use Rattle.std.specs.Str.{bytes_eq}
use Rattle.bson_elem.specs.declared.kinds.Kind.{Kind}
use Rattle.bson_elem.specs.declared.kinds.Kind.TheVariants as kinds
use Rattle.bson_elem.specs.{Tree, inner_pair, leaf_pair, no_pairs}
use Rattle.bson_raw.specs.{TreeValue, document_value, first_named, leaf_value}
use Rattle.doc_query.specs.declared.conditions.Operator.TheVariants as operators
use Rattle.doc_query.specs.declared.failure.CommandError.{CommandError}
use Rattle.doc_query.specs.declared.failure.CommandError.TheVariants as errors
use Rattle.doc_query.specs.declared.logical.Logical.{Logical}
use Rattle.doc_query.specs.declared.logical.Logical.TheVariants as logicals
use Rattle.doc_query.specs.declared.logical.Purpose.{Purpose}
use Rattle.doc_query.specs.declared.logical.Purpose.TheVariants as purposes
use Rattle.doc_query.specs.Conditions.{are_conditions, elements, finds, is_equated, meets_all}
use Rattle.doc_query.specs.Errors.{and_then, or_error}
use Rattle.doc_query.specs.Criteria.{has_decimal}
use Rattle.doc_query.specs.Owned.{owned}
use Rattle.doc_query.specs.Paths.{Reached, values_at}
use Rattle.doc_query.specs.Values.{text_of}

-- ---- which filters are accepted

-- the name of an operator begins with $
abbrev pub is_operator : List ℕ → Bool
is_operator [] = false
is_operator (b ∷ bs) = b == 36

-- the name of a field in an embedded document has a dot
abbrev pub is_path : List ℕ → Bool
is_path name = list_any (λ b. b == 46) name

-- a field of the document itself is named
abbrev pub is_plain_name : List ℕ → Bool
is_plain_name name = not (bytes_eq name (codes "") || is_operator name || is_path name)

-- the first of these names is that of an operator
abbrev pub begins_with_operator : Tree → Bool
begins_with_operator no_pairs = false
begins_with_operator (leaf_pair n k v ps) = is_operator n
begins_with_operator (inner_pair n k b inner ps) = is_operator n

-- a database reference, which is a value (MongoDB manual, Database References)
abbrev pub is_reference : Tree → Bool
is_reference t =
    is_some (text_of (first_named (codes "$ref") t)) && is_some (first_named (codes "$id") t)

-- a document asks for operators: its first name is that of one, and it is no reference
abbrev pub has_operators : Tree → Bool
has_operators t = begins_with_operator t && not (is_reference t)

-- a field may be asked for this: a value that it equals, or operators that are carried out
abbrev pub is_asked : TreeValue → Bool
is_asked (document_value kinds.Document b t) =
    if has_operators t then are_conditions t
    else is_equated (document_value kinds.Document b t)
is_asked v = is_equated v

-- a field of a filter isn't carried out: an operator of filters, or what it may not be asked for
abbrev pub is_refused_field : List ℕ → TreeValue → Bool
is_refused_field n v = is_operator n || not (is_asked v)

-- a value in a list is a document of operators
abbrev pub is_nested : TreeValue → Bool
is_nested (document_value kinds.Document b t) = has_operators t
is_nested v = false

abbrev pub lists_operator : Option TreeValue → Bool
lists_operator None = false
lists_operator (Some list) = list_any is_nested (elements list)

-- a field is asked for $in or $nin with a list that has an operator
abbrev pub nests_operator : TreeValue → Bool
nests_operator (document_value kinds.Document b t) =
    has_operators t
    && (lists_operator (first_named (codes "$in") t)
    || lists_operator (first_named (codes "$nin") t))
nests_operator v = false

abbrev pub field_fault : List ℕ → TreeValue → Option CommandError
field_fault n v =
    if is_refused_field n v then Some errors.Operator else
    if nests_operator v then Some errors.NestedOperator else None

-- the logical operator with this name
abbrev pub logical_of : List ℕ → Option Logical
logical_of name =
    if bytes_eq name (codes "$and") then Some logicals.And else
    if bytes_eq name (codes "$or") then Some logicals.Or else None

-- why a logical operator isn't carried out that has no array
abbrev pub no_array : Logical → CommandError
no_array logicals.And = errors.AndArray
no_array logicals.Or = errors.OrArray

abbrev pub is_array : Kind → Bool
is_array kinds.Array = true
is_array k = false

abbrev pub is_document : Kind → Bool
is_document kinds.Document = true
is_document k = false

-- there is one clause at least
abbrev pub unless_empty : Tree → Option CommandError → Option CommandError
unless_empty no_pairs fault = Some errors.NoClauses
unless_empty t fault = fault

-- what a logical operator has is an array of clauses, and these have this fault, if any
abbrev pub in_array_of : Logical → Kind → Tree → Option CommandError → Option CommandError
in_array_of l k t fault = if is_array k then unless_empty t fault else Some (no_array l)

-- what a field gives itself, or what a logical operator gives
abbrev pub unless_logical : {A : Type 0} → Option Logical → A → (Logical → A) → A
unless_logical None own joined = own
unless_logical (Some l) own joined = joined l

abbrev mutual
  -- why a filter isn't carried out, by its first field that isn't
  pub filter_fault : Tree → Option CommandError
  filter_fault no_pairs = None
  filter_fault (leaf_pair n k v ps) =
      option_or
      (unless_logical (logical_of n) (field_fault n (leaf_value k v)) (λ l. Some (no_array l)))
      (filter_fault ps)
  filter_fault (inner_pair n k b inner ps) =
      option_or
      (unless_logical (logical_of n) (field_fault n (document_value k b inner))
      (λ l. in_array_of l k inner (clauses_fault inner)))
      (filter_fault ps)

  -- why the clauses of a logical operator aren't: each is a filter
  pub clauses_fault : Tree → Option CommandError
  clauses_fault no_pairs = None
  clauses_fault (leaf_pair n k v ps) = Some errors.Clause
  clauses_fault (inner_pair n k b f ps) =
      option_or (if is_document k then filter_fault f else Some errors.Clause) (clauses_fault ps)

-- why one clause isn't carried out
abbrev pub clause_fault : TreeValue → Option CommandError
clause_fault (leaf_value k v) = Some errors.Clause
clause_fault (document_value k b f) = if is_document k then filter_fault f else Some errors.Clause

-- why the clauses of an array aren't
abbrev pub array_fault : Tree → Option CommandError
array_fault t = unless_empty t (clauses_fault t)

-- why a field of a filter isn't
abbrev pub value_fault : List ℕ → TreeValue → Option CommandError
value_fault n (leaf_value k v) =
    unless_logical (logical_of n) (field_fault n (leaf_value k v)) (λ l. Some (no_array l))
value_fault n (document_value k b t) =
    unless_logical (logical_of n) (field_fault n (document_value k b t))
    (λ l. in_array_of l k t (clauses_fault t))

-- what is checked, unless there is a fault
abbrev pub unless_fault : {A : Type 0} → Option CommandError → A → Result A CommandError
unless_fault None a = Ok a
unless_fault (Some e) a = Err e

-- the filter, unless a field of it isn't carried out
abbrev pub filter_in : Tree → Result Tree CommandError
filter_in f = unless_fault (filter_fault f) f

-- the filter that is a value which is kept
abbrev pub filter_value : Option TreeValue → Result Tree CommandError
filter_value (Some (document_value kinds.Document b t)) = filter_in t
filter_value _ = Err errors.Filter

-- the filter that is this document
abbrev pub read_filter : Tree → Result Tree CommandError
read_filter t = and_then (or_error errors.Filter (owned t)) filter_in

-- the filter that a field asks for, or the empty one if there is no such field
abbrev pub filter_of : Option TreeValue → Result Tree CommandError
filter_of None = Ok no_pairs
filter_of (Some (document_value kinds.Document b t)) = read_filter t
filter_of (Some _) = Err errors.Filter

-- the filter in the field of a command with this name
abbrev pub filter_field : List ℕ → Tree → Result Tree CommandError
filter_field name t = filter_of (first_named name t)

-- ---- which documents match

-- the values of a field are as all operators ask, or one equals the value in the filter
abbrev pub has_value : Reached → TreeValue → Bool
has_value owns (document_value kinds.Document b t) =
    if has_operators t then meets_all t owns
    else finds operators.Eq owns (document_value kinds.Document b t)
has_value owns v = finds operators.Eq owns v

-- a filter doesn't compare a decimal128, at any depth
abbrev pub is_uncompared : Reached → Bool
is_uncompared owns = list_any has_decimal owns

-- what is asked of the values of a field: that they are as the filter says, or that it compares
-- them
abbrev pub has_field : Purpose → Reached → TreeValue → Bool
has_field purposes.Match owns v = has_value owns v
has_field purposes.Compare owns v = not (is_uncompared owns)

-- $and asks for all of its clauses, and $or for one of them
abbrev pub joined : Logical → Bool → Bool → Bool
joined logicals.And a b = a && b
joined logicals.Or a b = a || b

-- where none is left, $and asks for nothing, and $or for what nothing can be
abbrev pub joined_none : Logical → Bool
joined_none logicals.And = true
joined_none logicals.Or = false

-- How clauses are joined: where documents are to match, as the operator says; where values are to
-- be compared, by `And`, since each clause of $or has to compare them.
abbrev pub joining : Purpose → Logical → Logical
joining purposes.Match l = l
joining purposes.Compare l = logicals.And

-- the logical operator with this name, if its value is an array
abbrev pub logical_at : List ℕ → Kind → Option Logical
logical_at n k = if is_array k then logical_of n else None

abbrev mutual
  -- a document has each field of a filter, as is asked
  pub has_fields : Tree → Purpose → Tree → Bool
  has_fields no_pairs p t = true
  has_fields (leaf_pair n k v ps) p t =
      has_field p (values_at n t) (leaf_value k v) && has_fields ps p t
  has_fields (inner_pair n k b inner ps) p t =
      unless_logical (logical_at n k) (has_field p (values_at n t) (document_value k b inner))
      (λ l. has_clauses inner (joining p l) p t)
      && has_fields ps p t

  -- it has those of the clauses, as the logical operator joins them
  pub has_clauses : Tree → Logical → Purpose → Tree → Bool
  has_clauses no_pairs l p t = joined_none l
  has_clauses (leaf_pair n k v ps) l p t = joined l false (has_clauses ps l p t)
  has_clauses (inner_pair n k b f ps) l p t =
      joined l (is_document k && has_fields f p t) (has_clauses ps l p t)

-- it is as one clause asks
abbrev pub has_clause : TreeValue → Purpose → Tree → Bool
has_clause (leaf_value k v) p t = false
has_clause (document_value k b f) p t = is_document k && has_fields f p t

-- it has one field of a filter, as is asked
abbrev pub has_pair : List ℕ → TreeValue → Purpose → Tree → Bool
has_pair n (leaf_value k v) p t = has_field p (values_at n t) (leaf_value k v)
has_pair n (document_value k b inner) p t =
    unless_logical (logical_at n k) (has_field p (values_at n t) (document_value k b inner))
    (λ l. has_clauses inner (joining p l) p t)

-- a value is a document that has each field of the filter, as that asks
abbrev pub matches : Tree → TreeValue → Bool
matches f (document_value kinds.Document b t) = has_fields f purposes.Match t
matches f _ = false

-- the documents that match, in order
abbrev pub found : Tree → List TreeValue → List TreeValue
found f [] = []
found f (v ∷ vs) = if matches f v then v ∷ found f vs else found f vs

-- a filter compares all values of a document that it asks for
abbrev pub compares : Tree → TreeValue → Bool
compares f (document_value kinds.Document b t) = has_fields f purposes.Compare t
compares f _ = true

abbrev pub compares_all : Tree → List TreeValue → Bool
compares_all f [] = true
compares_all f (v ∷ vs) = compares f v && compares_all f vs

-- the documents, unless one has a value that the filter doesn't compare
abbrev pub compared : Tree → List TreeValue → Result (List TreeValue) CommandError
compared f vs = if compares_all f vs then Ok vs else Err errors.Decimal

-- the documents that match, in order, or an error if one has a value that isn't compared
abbrev pub found_in : Tree → List TreeValue → Result (List TreeValue) CommandError
found_in f vs = and_then (compared f vs) (λ all. Ok (found f all))
