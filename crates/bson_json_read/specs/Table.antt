-- The values that objects of each form stand for (MongoDB Extended JSON v2: "Conversion table").
use Rattle.std.specs.Prelude.{ℕ, ℤ, ◌^◌, Bool, true, false, List, [], codes}
use Rattle.std.specs.Prelude.{Option, Some, None, option_and_then, option_map, if◌then◌else◌, ◌||◌}
use Rattle.std.specs.Float.{Float}
use Rattle.std.specs.Str.{bytes_eq}
use Rattle.json.specs.Find.{as_bool, as_number, as_object, as_str}
use Rattle.json.specs.Json as json
use Rattle.bson_elem.specs.declared.kinds.Kind.{Kind}
use Rattle.bson_elem.specs.declared.kinds.Kind.TheVariants as kinds
use Rattle.bson_elem.specs.{binary_value, number_value, pointer_value, raw_value, regex_value}
use Rattle.bson_elem.specs.{text_value, timestamp_value}
use Rattle.bson_raw.specs.{TreeValue, double_bytes, leaf_value}
use Rattle.bson_doc.specs.Unwritable.{has_zero}
use Rattle.bson_json.specs.{alphabetical}
use Rattle.bson_json_read.specs.declared.form.Form.{Form}
use Rattle.bson_json_read.specs.declared.form.Form.TheVariants as forms
use Rattle.bson_json_read.specs.Bytes.{base64_of, hex_of, subtype_of, uuid_of}
use Rattle.bson_json_read.specs.DecimalText.{decimal128_of}
use Rattle.bson_json_read.specs.Forms.{both, form_name, sole}
use Rattle.bson_json_read.specs.Iso.{iso_of}
use Rattle.bson_json_read.specs.Numbers.{double_of_text, integer_of, unsigned_of}

-- ---- the members of a form

-- the text of this name, if no other member is there
abbrev pub sole_text : List ℕ → json.Members → Option (List ℕ)
sole_text name ms = option_and_then as_str (sole name ms)

-- two texts, where both are there
abbrev pub beside : {A : Type 0} → A → List ℕ → A × List ℕ
beside x text = (x, text)

abbrev pub texts_of : json.Json × json.Json → Option (List ℕ × List ℕ)
texts_of p = option_and_then (λ a. option_map (beside a) (as_str p.1)) (as_str p.0)

-- the texts of two names, if they alone are there
abbrev pub both_texts : List ℕ → List ℕ → json.Members → Option (List ℕ × List ℕ)
both_texts a b ms = option_and_then texts_of (both a b ms)

-- ---- values

abbrev pub int32_value : ℤ → TreeValue
int32_value n = leaf_value kinds.Int32 (number_value n)

abbrev pub int64_value : ℤ → TreeValue
int64_value n = leaf_value kinds.Int64 (number_value n)

abbrev pub double_value : Float → TreeValue
double_value x = leaf_value kinds.Double (raw_value (double_bytes x))

abbrev pub string_value : List ℕ → TreeValue
string_value words = leaf_value kinds.String (text_value words)

abbrev pub object_id_value : List ℕ → TreeValue
object_id_value bytes = leaf_value kinds.ObjectId (raw_value bytes)

abbrev pub symbol_value : List ℕ → TreeValue
symbol_value words = leaf_value kinds.Symbol (text_value words)

abbrev pub code_value : List ℕ → TreeValue
code_value words = leaf_value kinds.Code (text_value words)

abbrev pub decimal_value : List ℕ → TreeValue
decimal_value bytes = leaf_value kinds.Decimal128 (raw_value bytes)

abbrev pub data_value : ℕ → List ℕ → TreeValue
data_value subtype bytes = leaf_value kinds.Binary (binary_value subtype bytes)

abbrev pub uuid_value : List ℕ → TreeValue
uuid_value bytes = data_value 4 bytes

abbrev pub date_value : ℤ → TreeValue
date_value ms = leaf_value kinds.DateTime (number_value ms)

-- `base64` and `subType`
abbrev pub binary_with : List ℕ → ℕ → Option TreeValue
binary_with text subtype = option_map (data_value subtype) (base64_of text)

abbrev pub binary_texts : List ℕ × List ℕ → Option TreeValue
binary_texts p = option_and_then (binary_with p.0) (subtype_of p.1)

abbrev pub binary_of : json.Members → Option TreeValue
binary_of ms = option_and_then binary_texts (both_texts (codes "base64") (codes "subType") ms)

-- `t` and `i`
abbrev pub number_in : json.Json → Option ℕ
number_in j = option_and_then unsigned_of (as_number j)

abbrev pub seconds_with : ℕ → ℕ → TreeValue
seconds_with seconds increment = leaf_value kinds.Timestamp (timestamp_value increment seconds)

abbrev pub timestamp_parts : json.Json × json.Json → Option TreeValue
timestamp_parts p =
    option_and_then (λ seconds. option_map (seconds_with seconds) (number_in p.1)) (number_in p.0)

abbrev pub timestamp_of : json.Members → Option TreeValue
timestamp_of ms = option_and_then timestamp_parts (both (codes "t") (codes "i") ms)

-- `pattern` and `options`, which have no 00; the options are read in alphabetical order
abbrev pub regex_texts : List ℕ × List ℕ → Option TreeValue
regex_texts p =
    if (has_zero p.0 || has_zero p.1) then None
    else Some (leaf_value kinds.Regex (regex_value p.0 (alphabetical p.1)))

abbrev pub regex_of : json.Members → Option TreeValue
regex_of ms = option_and_then regex_texts (both_texts (codes "pattern") (codes "options") ms)

-- `$ref` and `$id`, which is an ObjectId
abbrev pub id_of : json.Members → Option (List ℕ)
id_of ms = option_and_then (hex_of 12) (sole_text (codes "$oid") ms)

abbrev pub id_in : json.Json → Option (List ℕ)
id_in j = option_and_then id_of (as_object j)

abbrev pub pointer_with : List ℕ → List ℕ → TreeValue
pointer_with namespace id = leaf_value kinds.DbPointer (pointer_value namespace id)

abbrev pub pointer_parts : json.Json × json.Json → Option TreeValue
pointer_parts p =
    option_and_then (λ namespace. option_map (pointer_with namespace) (id_in p.1)) (as_str p.0)

abbrev pub pointer_of : json.Members → Option TreeValue
pointer_of ms = option_and_then pointer_parts (both (codes "$ref") (codes "$id") ms)

-- a date as ISO-8601, or as `$numberLong`
abbrev pub long_of : json.Members → Option ℤ
long_of ms = option_and_then (integer_of (2 ^ 63)) (sole_text (codes "$numberLong") ms)

abbrev pub iso_or_long : Option (List ℕ) → Option json.Members → Option ℤ
iso_or_long (Some text) inner = iso_of text
iso_or_long None inner = option_and_then long_of inner

abbrev pub date_in : json.Json → Option ℤ
date_in j = iso_or_long (as_str j) (as_object j)

-- the number 1, and `true`
abbrev pub is_one : Option (List ℕ) → Bool
is_one (Some text) = bytes_eq text (codes "1")
is_one None = false

abbrev pub key_value : Kind → Bool → Option TreeValue
key_value k there = if there then Some (leaf_value k (raw_value [])) else None

abbrev pub if_true : Bool → Option TreeValue
if_true true = Some (leaf_value kinds.Undefined (raw_value []))
if_true false = None

-- ---- the table: one row for each form

-- the value of a text, where it takes no memory
abbrev pub leaf_text : Form → List ℕ → Option TreeValue
leaf_text forms.ObjectId t = option_map object_id_value (hex_of 12 t)
leaf_text forms.Int32 t = option_map int32_value (integer_of (2 ^ 31) t)
leaf_text forms.Int64 t = option_map int64_value (integer_of (2 ^ 63) t)
leaf_text forms.Double t = option_map double_value (double_of_text t)
leaf_text forms.Decimal128 t = option_map decimal_value (decimal128_of t)
leaf_text forms.DateTime t = option_map date_value (iso_of t)
leaf_text _ t = None

-- the value of the one member of an object of this form
abbrev pub member_value : Form → json.Json → Option TreeValue
member_value forms.ObjectId j = option_and_then (leaf_text forms.ObjectId) (as_str j)
member_value forms.Symbol j = option_map symbol_value (as_str j)
member_value forms.Int32 j = option_and_then (leaf_text forms.Int32) (as_str j)
member_value forms.Int64 j = option_and_then (leaf_text forms.Int64) (as_str j)
member_value forms.Double j = option_and_then (leaf_text forms.Double) (as_str j)
member_value forms.Decimal128 j = option_and_then (leaf_text forms.Decimal128) (as_str j)
member_value forms.Binary j = option_and_then binary_of (as_object j)
member_value forms.Uuid j = option_map uuid_value (option_and_then uuid_of (as_str j))
member_value forms.Code j = option_map code_value (as_str j)
member_value forms.Timestamp j = option_and_then timestamp_of (as_object j)
member_value forms.Regex j = option_and_then regex_of (as_object j)
member_value forms.DbPointer j = option_and_then pointer_of (as_object j)
member_value forms.DateTime j = option_map date_value (date_in j)
member_value forms.MinKey j = key_value kinds.MinKey (is_one (as_number j))
member_value forms.MaxKey j = key_value kinds.MaxKey (is_one (as_number j))
member_value forms.Undefined j = option_and_then if_true (as_bool j)

abbrev pub form_value : Form → json.Members → Option TreeValue
form_value form ms = option_and_then (member_value form) (sole (form_name form) ms)
