-- The fields of documents, as they are kept.
use Rattle.std.specs.Prelude.{ℕ, List, [], ◌∷◌, Option, Some, None, Result}
use Rattle.bson_elem.specs.declared.kinds.Kind.TheVariants as kinds
use Rattle.bson_elem.specs.{Tree, inner_pair, leaf_pair, no_pairs}
use Rattle.bson_raw.specs.{TreeValue, document_value, leaf_value}
use Rattle.bson_doc.specs.{plain, repeat_depth}
use Rattle.doc_query.specs.declared.failure.CommandError.{CommandError}
use Rattle.doc_query.specs.declared.failure.CommandError.TheVariants as errors
use Rattle.doc_query.specs.Errors.{or_error}

-- a document in its canonical form, if no name is repeated in it or in a document or scope inside
abbrev pub if_no_repeat : {A : Type 0} → Option ℕ → A → Option A
if_no_repeat None a = Some a
if_no_repeat (Some depth) a = None

abbrev pub owned : Tree → Option Tree
owned t = if_no_repeat (repeat_depth t) (plain t)

-- the body of a command in its canonical form, if no name is repeated in it
abbrev pub body_of : Tree → Result Tree CommandError
body_of t = or_error errors.Repeated (owned t)

-- the values of an array, in order
abbrev pub values_in : Tree → List TreeValue
values_in no_pairs = []
values_in (leaf_pair n k v ps) = leaf_value k v ∷ values_in ps
values_in (inner_pair n k b t ps) = document_value k b t ∷ values_in ps

-- the values of a field, if it is an array
abbrev pub array_in : Option TreeValue → Option (List TreeValue)
array_in (Some (document_value kinds.Array b t)) = Some (values_in t)
array_in _ = None
