-- The names that tell which value an object stands for (MongoDB Extended JSON v2: "Type wrapper").
use Rattle.std.specs.Prelude.{ℕ, List, [], ◌∷◌, Bool, false, ◌==◌, Option, Some, None, codes}
use Rattle.std.specs.Prelude.{if◌then◌else◌}
use Rattle.std.specs.Str.{bytes_eq}
use Rattle.json.specs.Json as json
use Rattle.bson_json_read.specs.declared.form.Form.{Form}
use Rattle.bson_json_read.specs.declared.form.Form.TheVariants as forms

-- the name of a form
abbrev pub form_name : Form → List ℕ
form_name forms.ObjectId = codes "$oid"
form_name forms.Symbol = codes "$symbol"
form_name forms.Int32 = codes "$numberInt"
form_name forms.Int64 = codes "$numberLong"
form_name forms.Double = codes "$numberDouble"
form_name forms.Decimal128 = codes "$numberDecimal"
form_name forms.Binary = codes "$binary"
form_name forms.Uuid = codes "$uuid"
form_name forms.Code = codes "$code"
form_name forms.Timestamp = codes "$timestamp"
form_name forms.Regex = codes "$regularExpression"
form_name forms.DbPointer = codes "$dbPointer"
form_name forms.DateTime = codes "$date"
form_name forms.MinKey = codes "$minKey"
form_name forms.MaxKey = codes "$maxKey"
form_name forms.Undefined = codes "$undefined"

-- the first byte is a dollar sign
abbrev pub begins_with_dollar : List ℕ → Bool
begins_with_dollar [] = false
begins_with_dollar (b ∷ bs) = b == 36

-- the form of this name
abbrev pub form_named : List ℕ → Option Form
form_named name =
    if bytes_eq name (codes "$oid") then Some forms.ObjectId
    else if bytes_eq name (codes "$symbol") then Some forms.Symbol
    else if bytes_eq name (codes "$numberInt") then Some forms.Int32
    else if bytes_eq name (codes "$numberLong") then Some forms.Int64
    else if bytes_eq name (codes "$numberDouble") then Some forms.Double
    else if bytes_eq name (codes "$numberDecimal") then Some forms.Decimal128
    else if bytes_eq name (codes "$binary") then Some forms.Binary
    else if bytes_eq name (codes "$uuid") then Some forms.Uuid
    else if bytes_eq name (codes "$code") then Some forms.Code
    else if bytes_eq name (codes "$timestamp") then Some forms.Timestamp
    else if bytes_eq name (codes "$regularExpression") then Some forms.Regex
    else if bytes_eq name (codes "$dbPointer") then Some forms.DbPointer
    else if bytes_eq name (codes "$date") then Some forms.DateTime
    else if bytes_eq name (codes "$minKey") then Some forms.MinKey
    else if bytes_eq name (codes "$maxKey") then Some forms.MaxKey
    else if bytes_eq name (codes "$undefined") then Some forms.Undefined
    else None

-- the form that the first name of a form among these members tells
abbrev pub first_form : Option Form → Option Form → Option Form
first_form (Some f) later = Some f
first_form None later = later

abbrev pub form_in : json.Members → Option Form
form_in json.no_members = None
form_in (json.member name j ms) = first_form (form_named name) (form_in ms)

-- the value of this name, if no other member is there
abbrev pub sole : List ℕ → json.Members → Option json.Json
sole name (json.member k j json.no_members) = if bytes_eq k name then Some j else None
sole name _ = None

-- the values of these two names, if they alone are there, in either order
abbrev pub both_of : List ℕ → List ℕ → List ℕ → json.Json → List ℕ → json.Json
    → Option (json.Json × json.Json)
both_of a b k j l i =
    if bytes_eq k a then (if bytes_eq l b then Some (j, i) else None)
    else if bytes_eq k b then (if bytes_eq l a then Some (i, j) else None)
    else None

abbrev pub both : List ℕ → List ℕ → json.Members → Option (json.Json × json.Json)
both a b (json.member k j (json.member l i json.no_members)) = both_of a b k j l i
both a b _ = None
