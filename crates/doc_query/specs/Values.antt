-- Values: those that are made, and what is read of one.
use Rattle.std.specs.Prelude.{ℕ, ℤ, pos, List, Bool, Option, Some, None, Result, Ok, Err, nat_le}
use Rattle.std.specs.Prelude.{nat_lt, if◌then◌else◌}
use Rattle.bson_elem.specs.declared.kinds.Kind.TheVariants as kinds
use Rattle.bson_elem.specs.{boolean_value, no_code, number_value, text_value}
use Rattle.bson_raw.specs.{TreeValue, document_value, leaf_value}
use Rattle.bson_doc.specs.{array_tree, tree_of}
use Rattle.doc_query.specs.declared.failure.CommandError.{CommandError}

-- ---- making values

abbrev pub truth : Bool → TreeValue
truth b = leaf_value kinds.Boolean (boolean_value b)

abbrev pub int32 : ℤ → TreeValue
int32 z = leaf_value kinds.Int32 (number_value z)

abbrev pub int64 : ℤ → TreeValue
int64 z = leaf_value kinds.Int64 (number_value z)

-- a string
abbrev pub text : List ℕ → TreeValue
text s = leaf_value kinds.String (text_value s)

-- a document
abbrev pub inner : List (List ℕ × TreeValue) → TreeValue
inner pairs = document_value kinds.Document no_code (tree_of pairs)

abbrev pub array : List TreeValue → TreeValue
array vs = document_value kinds.Array no_code (array_tree 0 vs)

-- a number of documents, as an int32 if it fits
abbrev pub count_value : ℕ → TreeValue
count_value n = if nat_lt n 2147483648 then int32 (pos n) else int64 (pos n)

-- ---- reading them

-- the text of a string
abbrev pub text_of : Option TreeValue → Option (List ℕ)
text_of (Some (leaf_value kinds.String (text_value s))) = Some s
text_of _ = None

-- the number of an int32 or an int64, if it isn't negative
abbrev pub count_of : TreeValue → Option ℕ
count_of (leaf_value kinds.Int32 (number_value (pos k))) = Some k
count_of (leaf_value kinds.Int64 (number_value (pos k))) = Some k
count_of _ = None

-- the number, if it is at least this
abbrev pub at_least : ℕ → CommandError → Option ℕ → Result ℕ CommandError
at_least least error None = Err error
at_least least error (Some k) = if nat_le least k then Ok k else Err error

-- the truth value in a field, or this one if there is no such field
abbrev pub asked_flag : Bool → CommandError → Option TreeValue → Result Bool CommandError
asked_flag otherwise error None = Ok otherwise
asked_flag otherwise error (Some (leaf_value kinds.Boolean (boolean_value truth))) = Ok truth
asked_flag otherwise error (Some _) = Err error
