-- The projection of find: the fields that are kept of each document (MongoDB manual, Project Fields
-- to Return from Query).
use Rattle.std.specs.Prelude.{ℕ, pos, List, Bool, true, false, not, ◌&&◌}
use Rattle.std.specs.Prelude.{Option, Some, None, Result, Ok, Err, codes, if◌then◌else◌}
use Rattle.std.specs.Option.{option_map_or, option_or}
use Rattle.std.specs.Str.{bytes_eq}
use Rattle.bson_elem.specs.declared.kinds.Kind.TheVariants as kinds
use Rattle.bson_elem.specs.{Tree, boolean_value, inner_pair, leaf_pair, no_pairs}
use Rattle.bson_raw.specs.{TreeValue, document_value, first_named, leaf_value}
use Rattle.doc_query.specs.declared.failure.CommandError.{CommandError}
use Rattle.doc_query.specs.declared.failure.CommandError.TheVariants as errors
use Rattle.doc_query.specs.{and_then, is_number, is_plain_name, or_error, owned, unless_fault}

abbrev pub is_id : List ℕ → Bool
is_id name = bytes_eq name (codes "_id")

-- ---- which projections are carried out

-- a field is asked for by a boolean, or by a number
abbrev pub is_flag : TreeValue → Bool
is_flag (leaf_value kinds.Boolean v) = true
is_flag (leaf_value kinds.Int32 v) = true
is_flag (leaf_value kinds.Int64 v) = true
is_flag (leaf_value kinds.Double v) = true
is_flag _ = false

-- by true, or a number that isn't 0, it is included, and otherwise excluded
abbrev pub includes : TreeValue → Bool
includes (leaf_value kinds.Boolean (boolean_value b)) = b
includes v = not (is_number (pos 0) v)

-- the first field but for `_id` says whether a projection includes or excludes, or else `_id` does
abbrev pub includes_from : Bool → Tree → Bool
includes_from by_id no_pairs = by_id
includes_from by_id (leaf_pair n k v ps) =
    if is_id n then includes_from (includes (leaf_value k v)) ps else includes (leaf_value k v)
includes_from by_id (inner_pair n k b t ps) =
    if is_id n then includes_from (includes (document_value k b t)) ps
    else includes (document_value k b t)

abbrev pub is_inclusion : Tree → Bool
is_inclusion p = includes_from false p

-- all fields but for `_id` are asked for in the same way
abbrev pub mix_fault : Bool → Bool → Option CommandError
mix_fault true true = None
mix_fault true false = Some errors.Exclusion
mix_fault false true = Some errors.Inclusion
mix_fault false false = None

abbrev pub named_fault : Bool → List ℕ → TreeValue → Option CommandError
named_fault inclusion n v =
    if is_plain_name n && is_flag v
    then (if is_id n then None else mix_fault inclusion (includes v)) else Some errors.Projected

-- why a projection isn't carried out, by its first field that isn't
abbrev pub projection_fault : Bool → Tree → Option CommandError
projection_fault inclusion no_pairs = None
projection_fault inclusion (leaf_pair n k v ps) =
    option_or (named_fault inclusion n (leaf_value k v)) (projection_fault inclusion ps)
projection_fault inclusion (inner_pair n k b t ps) =
    option_or (named_fault inclusion n (document_value k b t)) (projection_fault inclusion ps)

abbrev pub projection_in : Tree → Result Tree CommandError
projection_in p = unless_fault (projection_fault (is_inclusion p) p) p

abbrev pub read_projection : Tree → Result Tree CommandError
read_projection t = and_then (or_error errors.Projection (owned t)) projection_in

-- the projection that a field asks for, or the empty one if there is no such field
abbrev pub projection_of : Option TreeValue → Result Tree CommandError
projection_of None = Ok no_pairs
projection_of (Some (document_value kinds.Document b t)) = read_projection t
projection_of (Some _) = Err errors.Projection

-- the projection that a command asks for
abbrev pub projection_field : Tree → Result Tree CommandError
projection_field t = projection_of (first_named (codes "projection") t)

-- ---- what is kept of a document

-- A field that the projection names is kept as that says. Others are kept if it excludes, and `_id`
-- is so always.
abbrev pub keeps : Tree → List ℕ → Bool
keeps p name =
    option_map_or includes (first_named name p) (if is_inclusion p then is_id name else true)

-- the fields that are kept, in their order
abbrev pub kept : Tree → Tree → Tree
kept p no_pairs = no_pairs
kept p (leaf_pair n k v ps) = if keeps p n then leaf_pair n k v (kept p ps) else kept p ps
kept p (inner_pair n k b t ps) = if keeps p n then inner_pair n k b t (kept p ps) else kept p ps

-- the document with the fields that a projection keeps
abbrev pub projected : Tree → TreeValue → TreeValue
projected p (document_value kinds.Document b t) = document_value kinds.Document b (kept p t)
projected p v = v
