-- The sort of find (MongoDB manual, cursor.sort): by each key in turn, in the order of values.
use Rattle.std.specs.Prelude.{ℕ, pos, negsuc, List, [], ◌∷◌, Bool, true, not, ◌&&◌, ◌||◌}
use Rattle.std.specs.Prelude.{Option, Some, None, Result, Ok, Err, codes, is_some}
use Rattle.std.specs.Prelude.{if◌then◌else◌}
use Rattle.std.specs.Ordering.{is_gt, ordering_then}
use Rattle.std.specs.declared.cmp.Ordering.{Ordering}
use Rattle.std.specs.declared.cmp.Ordering.TheVariants.{Equal}
use Rattle.bson_elem.specs.declared.kinds.Kind.TheVariants as kinds
use Rattle.bson_elem.specs.{Tree, inner_pair, leaf_pair, no_pairs}
use Rattle.bson_raw.specs.{TreeValue, document_value, first_named, leaf_value}
use Rattle.doc_query.specs.declared.failure.CommandError.{CommandError}
use Rattle.doc_query.specs.declared.failure.CommandError.TheVariants as errors
use Rattle.doc_query.specs.{and_then, field_order, is_number, is_operator, or_error, owned, place}
use Rattle.doc_query.specs.{single_at, steps}

-- ---- which keys are accepted

-- a direction is a number: 1 is up, and -1 is down
abbrev pub is_up : TreeValue → Bool
is_up v = is_number (pos 1) v

abbrev pub is_down : TreeValue → Bool
is_down v = is_number (negsuc 0) v

abbrev pub is_key : List ℕ → TreeValue → Bool
is_key n v = not (is_operator n) && (is_up v || is_down v)

-- whether each pair is a key and its direction
abbrev pub are_keys : Tree → Bool
are_keys no_pairs = true
are_keys (leaf_pair n k v ps) = is_key n (leaf_value k v) && are_keys ps
are_keys (inner_pair n k b inner ps) = is_key n (document_value k b inner) && are_keys ps

abbrev pub keys_in : Tree → Result Tree CommandError
keys_in t = if are_keys t then Ok t else Err errors.Direction

abbrev pub read_keys : Tree → Result Tree CommandError
read_keys t = and_then (or_error errors.Sort (owned t)) keys_in

-- the keys that a field asks for, or none if there is no such field
abbrev pub keys_of : Option TreeValue → Result Tree CommandError
keys_of None = Ok no_pairs
keys_of (Some (document_value kinds.Document b t)) = read_keys t
keys_of (Some _) = Err errors.Sort

-- the keys that a command sorts by
abbrev pub sort_field : Tree → Result Tree CommandError
sort_field t = keys_of (first_named (codes "sort") t)

-- ---- the order of documents

-- the value of a field of a document, in which an array on the way to it stands for it
abbrev pub field_in : List ℕ → TreeValue → Option TreeValue
field_in path v = single_at (steps path) (Some v)

-- the order of two documents by one key
abbrev pub key_order : List ℕ → TreeValue → TreeValue → TreeValue → Ordering
key_order name direction v w =
    if is_down direction
    then field_order (field_in name w) (field_in name v)
    else field_order (field_in name v) (field_in name w)

-- the first key by which they differ decides
abbrev pub keys_order : Tree → TreeValue → TreeValue → Ordering
keys_order no_pairs v w = Equal
keys_order (leaf_pair n k d ps) v w =
    ordering_then (key_order n (leaf_value k d) v w) (keys_order ps v w)
keys_order (inner_pair n k b inner ps) v w =
    ordering_then (key_order n (document_value k b inner) v w) (keys_order ps v w)

-- ---- which documents are sorted

-- a missing field has a place, and so have values of some kinds
abbrev pub is_ordered : Option TreeValue → Bool
is_ordered None = true
is_ordered (Some v) = is_some (place v)

-- all values of a document by which it is sorted have a place
abbrev pub are_ordered : Tree → TreeValue → Bool
are_ordered no_pairs v = true
are_ordered (leaf_pair n k d ps) v = is_ordered (field_in n v) && are_ordered ps v
are_ordered (inner_pair n k b inner ps) v = is_ordered (field_in n v) && are_ordered ps v

-- and all those of these documents
abbrev pub all_ordered : Tree → List TreeValue → Bool
all_ordered keys [] = true
all_ordered keys (v ∷ vs) = are_ordered keys v && all_ordered keys vs

-- ---- the sort, which keeps documents that are equal by all keys in their order

abbrev pub insert_sorted : {A : Type 0} → (A → A → Ordering) → A → List A → List A
insert_sorted order v [] = v ∷ []
insert_sorted order v (w ∷ ws) =
    if is_gt (order v w) then w ∷ insert_sorted order v ws else v ∷ w ∷ ws

abbrev pub sorted : {A : Type 0} → (A → A → Ordering) → List A → List A
sorted order [] = []
sorted order (v ∷ vs) = insert_sorted order v (sorted order vs)

-- the documents in order, unless one has a value that has no place
abbrev pub sorted_in : Tree → List TreeValue → Result (List TreeValue) CommandError
sorted_in keys vs =
    if all_ordered keys vs then Ok (sorted (keys_order keys) vs) else Err errors.Unsorted
