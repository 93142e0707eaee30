-- The value that a JSON value is, and the pairs of a document.
use Rattle.std.specs.Prelude.{ℕ, zero, suc, ◌^◌, List, [], ◌∷◌, ◌++◌, length, Option, Some, None}
use Rattle.std.specs.Prelude.{ℤ, codes, if◌then◌else◌, is_some, option_and_then, option_map}
use Rattle.std.specs.Float.{Float}
use Rattle.std.specs.Str.{bytes_eq}
use Rattle.std.specs.Prelude.{◌≡◌, Result, Ok, Err}
use Rattle.json.specs.Find.{as_object, as_str}
use Rattle.json.specs.Json as json
use Rattle.bson_elem.specs.declared.kinds.Kind.TheVariants as kinds
use Rattle.bson_elem.specs.{boolean_value, no_code, raw_value, with_code}
use Rattle.bson_raw.specs.{TreeValue, document_value, leaf_value}
use Rattle.bson_doc.specs.declared.bson_values.Bson.{Bson}
use Rattle.bson_doc.specs.{array_tree, tree_of, value_of}
use Rattle.bson_doc.specs.Document.{value_named}
use Rattle.bson_doc.specs.Unwritable.{has_zero}
use Rattle.bson_json_read.specs.declared.fault.Cause.{Cause}
use Rattle.bson_json_read.specs.declared.fault.Cause.TheVariants as causes
use Rattle.bson_json_read.specs.declared.form.Form.{Form}
use Rattle.bson_json_read.specs.declared.form.Form.TheVariants as forms
use Rattle.bson_json_read.specs.Forms.{both, form_in}
use Rattle.bson_json_read.specs.Numbers.{finite_of, integer_of}
use Rattle.bson_json_read.specs.declared.fault.JsonFault.{JsonFault}
use Rattle.bson_json_read.specs.Reads.{IsFault, Read, and_map, and_then, or_refused, refused}
use Rattle.bson_json_read.specs.Reads.{within}
use Rattle.bson_json_read.specs.Table.{double_value, form_value, int32_value, int64_value}
use Rattle.bson_json_read.specs.Table.{string_value}

abbrev pub Pair : Type 0
Pair = List ℕ × TreeValue

-- ---- numbers: without point and exponent the smallest integer that holds the number, and else the
-- nearest double

abbrev pub float_read : Option Float → Read TreeValue
float_read x = or_refused causes.NumberTooLarge (option_map double_value x)

abbrev pub long_or_float : Option ℤ → Option Float → Read TreeValue
long_or_float (Some n) x = Ok (int64_value n)
long_or_float None x = float_read x

abbrev pub int_or_long : Option ℤ → Option ℤ → Option Float → Read TreeValue
int_or_long (Some n) long x = Ok (int32_value n)
int_or_long None long x = long_or_float long x

abbrev pub number_read : List ℕ → Read TreeValue
number_read text =
    int_or_long (integer_of (2 ^ 31) text) (integer_of (2 ^ 63) text) (finite_of text)

-- ---- pairs and items, each behind those before it

abbrev pub name_refused : List ℕ → List Pair → Option Cause
name_refused name before =
    if has_zero name then Some causes.ZeroInName
    else if is_some (value_named name before) then Some causes.RepeatedName
    else None

abbrev pub pair_read : Option Cause → Read TreeValue → Read TreeValue
pair_read (Some cause) value = refused cause
pair_read None value = value

abbrev pub pairs_read : (json.Json → Read TreeValue) → List Pair → json.Members → Read (List Pair)
pairs_read read before json.no_members = Ok before
pairs_read read before (json.member name j ms) =
    and_then (within (length before) (pair_read (name_refused name before) (read j)))
    (λ v. pairs_read read (before ++ (name, v) ∷ []) ms)

abbrev pub items_read : (json.Json → Read TreeValue) → List TreeValue → json.Items
    → Read (List TreeValue)
items_read read before json.no_items = Ok before
items_read read before (json.item j js) =
    and_then (within (length before) (read j)) (λ v. items_read read (before ++ v ∷ []) js)

-- ---- objects

-- a code and the members of its scope
abbrev pub beside : {A B : Type 0} → A → B → A × B
beside x y = (x, y)

abbrev pub scoped_parts : json.Json × json.Json → Option (List ℕ × json.Members)
scoped_parts p = option_and_then (λ code. option_map (beside code) (as_object p.1)) (as_str p.0)

abbrev pub scoped : json.Members → Option (List ℕ × json.Members)
scoped ms = option_and_then scoped_parts (both (codes "$code") (codes "$scope") ms)

-- the index of the scope
abbrev pub scope_index : json.Members → ℕ
scope_index (json.member name j ms) = if bytes_eq name (codes "$scope") then 0 else 1
scope_index json.no_members = 1

abbrev pub document_of : List Pair → TreeValue
document_of ps = document_value kinds.Document no_code (tree_of ps)

abbrev pub array_of : List TreeValue → TreeValue
array_of vs = document_value kinds.Array no_code (array_tree 0 vs)

abbrev pub scope_of : List ℕ → List Pair → TreeValue
scope_of code ps = document_value kinds.CodeWithScope (with_code code) (tree_of ps)

-- an object that has the name of this form
abbrev pub form_read : Form → json.Members → Read TreeValue
form_read form ms = or_refused (causes.WrongForm form) (form_value form ms)

abbrev pub code_read : (json.Members → Read (List Pair)) → json.Members
    → Option (List ℕ × json.Members) → Read TreeValue
code_read documents ms (Some p) =
    and_map (scope_of p.0) (within (scope_index ms) (documents p.1))
code_read documents ms None = form_read forms.Code ms

abbrev pub object_as : (json.Members → Read (List Pair)) → json.Members → Option Form
    → Read TreeValue
object_as documents ms None = and_map document_of (documents ms)
object_as documents ms (Some forms.Code) = code_read documents ms (scoped ms)
object_as documents ms (Some form) = form_read form ms

-- ---- values, by how documents and arrays are read

abbrev pub value_with : (json.Members → Read (List Pair)) → (json.Items → Read (List TreeValue))
    → json.Json → Read TreeValue
value_with documents arrays json.null = Ok (leaf_value kinds.Null (raw_value []))
value_with documents arrays (json.boolean b) = Ok (leaf_value kinds.Boolean (boolean_value b))
value_with documents arrays (json.number text) = number_read text
value_with documents arrays (json.string text) = Ok (string_value text)
value_with documents arrays (json.array js) = and_map array_of (arrays js)
value_with documents arrays (json.object ms) = object_as documents ms (form_in ms)

-- the value of a JSON value, in what so many documents and arrays may still be nested
abbrev pub value_read : ℕ → json.Json → Read TreeValue
value_read zero j = value_with (λ ms. refused causes.Depth) (λ js. refused causes.Depth) j
value_read (suc room) j =
    value_with (pairs_read (value_read room) []) (items_read (value_read room) []) j

-- the pairs of a document, and the values of an array
abbrev pub document_read : ℕ → json.Members → Read (List Pair)
document_read zero ms = refused causes.Depth
document_read (suc room) ms = pairs_read (value_read room) [] ms

abbrev pub array_read : ℕ → json.Items → Read (List TreeValue)
array_read zero js = refused causes.Depth
array_read (suc room) js = items_read (value_read room) [] js

-- ---- what the code reads

abbrev pub plain : Result Bson Cause → Read TreeValue
plain (Ok b) = Ok (value_of b)
plain (Err cause) = refused cause

-- the code's value is this one, or its fault is, or memory ran out
abbrev pub IsRead : Read TreeValue → Result Bson JsonFault → Type 0
IsRead read (Ok b) = read ≡ Ok (value_of b)
IsRead read (Err e) = IsFault read e
