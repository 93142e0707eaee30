-- How far values reach: the sizes that are fixed, the bytes after a value, and the offset of the
-- document in it.
use Rattle.std.specs.Prelude.{ℕ, List, Option, Some, None, Result, Ok, Err}
use Rattle.bson_elem.specs.declared.fault.BsonCause.{BsonCause}
use Rattle.bson_elem.specs.declared.fault.BsonFault.{BsonFault}
use Rattle.bson_elem.specs.Kinds.{Form, raw_form, int32_form, int64_form, timestamp_form}
use Rattle.bson_elem.specs.Checks.{Read, Value, a_leaf, opens}

-- the size of each value of the form, if all have the same size and any bytes of that size are one
abbrev pub fixed_size : Form → Option ℕ
fixed_size (raw_form n) = Some n
fixed_size int32_form = Some 4
fixed_size int64_form = Some 8
fixed_size timestamp_form = Some 8
fixed_size _ = None

-- the offset of the document that a value holds, if it holds one
abbrev pub document_offset : Value → Option ℕ
document_offset (a_leaf v) = None
document_offset (opens q b body) = Some q

-- the bytes after what was read
abbrev pub rest_of : {A : Type 0} → Read A → Result (List ℕ) BsonCause
rest_of (Ok x) = Ok x.1
rest_of (Err c) = Err c

-- the offset of the document in a value, if it holds one, and the bytes after the value
abbrev pub value_extent : Result (Value × List ℕ) BsonFault → Result (Option ℕ × List ℕ) BsonFault
value_extent (Ok v) = Ok (document_offset v.0, v.1)
value_extent (Err f) = Err f
