-- The text of a document as MongoDB Extended JSON v2 (the drivers' specification: "Conversion
-- table"). There is no white space. Text is as RFC 8259 has it, in UTF-8.
use Rattle.std.specs.Prelude.{◌≡◌, ℕ, ℤ, pos, negsuc, Bool, true, false, List, [], ◌∷◌, ◌++◌}
use Rattle.std.specs.Prelude.{codes, decimal, nat_lt, if◌then◌else◌, MatchBool, Some}
use Rattle.std.specs.Float.{Float, binary64, float_is_finite}
use Rattle.std.specs.Fmt.{sign_text, signed_decimal}
use Rattle.std.specs.Float.Ieee.{nan, inf, fin}
use Rattle.base64.specs.Engines.{standard}
use Rattle.base64.specs.GeneralPurpose.{encode_of}
use Rattle.hex.specs.Hex.{encode_lower}
use Rattle.json.specs.Print.{quoted}
use Rattle.ryu.specs.Parse.{parse_float}
use Rattle.ryu.specs.Plain.{IsPlusNumber}
use Rattle.bson_elem.specs.declared.kinds.Kind.{Kind}
use Rattle.bson_elem.specs.declared.kinds.Kind.TheVariants.{Double, String, Document, Array, Binary}
use Rattle.bson_elem.specs.declared.kinds.Kind.TheVariants.{Undefined, ObjectId, Boolean, DateTime}
use Rattle.bson_elem.specs.declared.kinds.Kind.TheVariants.{Null, Regex, DbPointer, Code, Symbol}
use Rattle.bson_elem.specs.declared.kinds.Kind.TheVariants.{CodeWithScope, Int32, Timestamp, Int64}
use Rattle.bson_elem.specs.declared.kinds.Kind.TheVariants.{Decimal128, MinKey, MaxKey}
use Rattle.bson_elem.specs.{Beside, Leaf, Tree, binary_value, boolean_value, inner_pair, leaf_pair}
use Rattle.bson_elem.specs.{no_code, no_pairs, number_value, pointer_value, raw_value, regex_value}
use Rattle.bson_elem.specs.{text_value, timestamp_value, with_code}
use Rattle.bson_raw.specs.{double_of}
use Rattle.bson_json.specs.declared.mode.Mode.{Mode}
use Rattle.bson_json.specs.declared.mode.Mode.TheVariants.{Canonical, Relaxed}
use Rattle.bson_json.specs.Dates.{IsIsoText}
use Rattle.bson_json.specs.Decimals.{decimal128_text}
use Rattle.bson_json.specs.Options.{alphabetical}

-- ---- numbers

-- The text of a finite double is a JSON number with a point or an exponent, which reads back as
-- that double, laid out as the crate ryu does it. The others have their names.
abbrev pub IsNumberText : Float → List ℕ → Type 0
IsNumberText nan text = text ≡ codes "NaN"
IsNumberText (inf negative) text = text ≡ sign_text negative ++ codes "Infinity"
IsNumberText (fin negative m e) text =
    (parse_float binary64 text ≡ Some (fin negative m e)) × IsPlusNumber 16 4 text

-- a number's text under a name, as text
abbrev pub number_named : List ℕ → List ℕ → List ℕ
number_named name text = codes "{\"$number" ++ (name ++ (codes "\":\"" ++ (text ++ codes "\"}")))

-- plain in relaxed JSON where the number is finite, else under its name
abbrev pub double_json : Mode → Float → List ℕ → List ℕ
double_json Canonical x text = number_named (codes "Double") text
double_json Relaxed x text = if float_is_finite x then text else number_named (codes "Double") text

abbrev pub IsDoubleJson : Mode → Float → List ℕ → Type 0
IsDoubleJson mode x json = (text : List ℕ) × IsNumberText x text × (json ≡ double_json mode x text)

abbrev pub integer_json : Mode → List ℕ → ℤ → List ℕ
integer_json Canonical name z = number_named name (signed_decimal z)
integer_json Relaxed name z = signed_decimal z

-- ---- dates: in relaxed JSON as ISO-8601 from 1970 to 9999, else by milliseconds since 1970

abbrev pub date_digits : List ℕ → List ℕ
date_digits digits = codes "{\"$date\":" ++ (number_named (codes "Long") digits ++ codes "}")

abbrev pub date_number : ℤ → List ℕ
date_number z = date_digits (signed_decimal z)

abbrev pub IsIsoJson : ℕ → List ℕ → Type 0
IsIsoJson ms json =
    (text : List ℕ) × IsIsoText ms text × (json ≡ codes "{\"$date\":\"" ++ (text ++ codes "\"}"))

abbrev pub IsDateJson : Mode → ℤ → List ℕ → Type 0
IsDateJson Canonical z json = json ≡ date_number z
IsDateJson Relaxed (negsuc n) json = json ≡ date_number (negsuc n)
IsDateJson Relaxed (pos n) json =
    MatchBool (nat_lt n 253402300800000) (IsIsoJson n json) (json ≡ date_number (pos n))

-- ---- the other values that hold no document

abbrev pub object_id_json : List ℕ → List ℕ
object_id_json id = codes "{\"$oid\":\"" ++ (encode_lower id ++ codes "\"}")

abbrev pub binary_json : ℕ → List ℕ → List ℕ
binary_json subtype bytes =
    codes "{\"$binary\":{\"base64\":\"" ++ (encode_of standard bytes
    ++ (codes "\",\"subType\":\"" ++ (encode_lower (subtype ∷ []) ++ codes "\"}}")))

abbrev pub boolean_json : Bool → List ℕ
boolean_json true = codes "true"
boolean_json false = codes "false"

abbrev pub regex_json : List ℕ → List ℕ → List ℕ
regex_json pattern options =
    codes "{\"$regularExpression\":{\"pattern\":" ++ (quoted pattern
    ++ (codes ",\"options\":" ++ (quoted (alphabetical options) ++ codes "}}")))

abbrev pub db_pointer_json : List ℕ → List ℕ → List ℕ
db_pointer_json namespace id =
    codes "{\"$dbPointer\":{\"$ref\":" ++ (quoted namespace
    ++ (codes ",\"$id\":" ++ (object_id_json id ++ codes "}}")))

abbrev pub timestamp_json : ℕ → ℕ → List ℕ
timestamp_json seconds increment =
    codes "{\"$timestamp\":{\"t\":" ++ (decimal seconds
    ++ (codes ",\"i\":" ++ (decimal increment ++ codes "}}")))

abbrev pub decimal_json : List ℕ → List ℕ
decimal_json bytes = number_named (codes "Decimal") (decimal128_text bytes)

-- the JSON of a value that holds no document, and is no double and no date
abbrev pub leaf_json : Mode → Kind → Leaf → List ℕ
leaf_json mode String (text_value words) = quoted words
leaf_json mode Binary (binary_value subtype bytes) = binary_json subtype bytes
leaf_json mode Undefined (raw_value bytes) = codes "{\"$undefined\":true}"
leaf_json mode ObjectId (raw_value bytes) = object_id_json bytes
leaf_json mode Boolean (boolean_value truth) = boolean_json truth
leaf_json mode Null (raw_value bytes) = codes "null"
leaf_json mode Regex (regex_value pattern options) = regex_json pattern options
leaf_json mode DbPointer (pointer_value namespace id) = db_pointer_json namespace id
leaf_json mode Code (text_value words) = codes "{\"$code\":" ++ (quoted words ++ codes "}")
leaf_json mode Symbol (text_value words) = codes "{\"$symbol\":" ++ (quoted words ++ codes "}")
leaf_json mode Int32 (number_value z) = integer_json mode (codes "Int") z
leaf_json mode Timestamp (timestamp_value increment seconds) = timestamp_json seconds increment
leaf_json mode Int64 (number_value z) = integer_json mode (codes "Long") z
leaf_json mode Decimal128 (raw_value bytes) = decimal_json bytes
leaf_json mode MinKey (raw_value bytes) = codes "{\"$minKey\":1}"
leaf_json mode MaxKey (raw_value bytes) = codes "{\"$maxKey\":1}"
leaf_json mode _ _ = []

-- the JSON of a value that holds no document
abbrev pub IsLeafJson : Mode → Kind → Leaf → List ℕ → Type 0
IsLeafJson mode Double (raw_value bytes) json = IsDoubleJson mode (double_of bytes) json
IsLeafJson mode DateTime (number_value z) json = IsDateJson mode z json
IsLeafJson mode k v json = json ≡ leaf_json mode k v

-- ---- documents, arrays and scopes

-- what stands before the pairs that a value of this kind holds, and behind them
abbrev pub opening : Kind → Beside → List ℕ
opening Array no_code = codes "["
opening CodeWithScope (with_code words) =
    codes "{\"$code\":" ++ (quoted words ++ codes ",\"$scope\":{")
opening _ _ = codes "{"

abbrev pub closing : Kind → List ℕ
closing Array = codes "]"
closing CodeWithScope = codes "}}"
closing _ = codes "}"

-- what stands before the value of a pair: a comma, unless the pair is the first, and then its name,
-- unless it is in an array
abbrev pub comma : Bool → List ℕ
comma true = []
comma false = codes ","

abbrev pub label : Kind → List ℕ → List ℕ
label Array name = []
label _ name = quoted name ++ codes ":"

-- the JSON of the pairs that a value of this kind holds, in order; the first has no comma
abbrev pub IsPairsJson : Mode → Kind → Bool → Tree → List ℕ → Type 0
IsPairsJson mode holder first no_pairs json = json ≡ []
IsPairsJson mode holder first (leaf_pair name k v ps) json =
    (value : List ℕ) × (others : List ℕ) × IsLeafJson mode k v value
    × IsPairsJson mode holder false ps others
    × (json ≡ comma first ++ (label holder name ++ (value ++ others)))
IsPairsJson mode holder first (inner_pair name k b inner ps) json =
    (inside : List ℕ) × (others : List ℕ) × IsPairsJson mode k true inner inside
    × IsPairsJson mode holder false ps others
    × (json ≡ comma first
    ++ (label holder name ++ (opening k b ++ (inside ++ (closing k ++ others)))))

-- the JSON of a document
abbrev pub IsJson : Mode → Tree → List ℕ → Type 0
IsJson mode t json =
    (inside : List ℕ) × IsPairsJson mode Document true t inside
    × (json ≡ codes "{" ++ (inside ++ codes "}"))
