-- What follows an element's name in a dump: a space, the kind's word and, if the kind has one, the
-- value.
use Rattle.std.specs.Prelude.{ℕ, ℤ, Bool, true, false, List, [], ◌∷◌, ◌++◌, codes, length}
use Rattle.std.specs.Fmt.{decimal, signed_decimal}
use Rattle.hex.specs.Hex.{encode_lower}
use Rattle.bson_text.specs.Text.{quoted}

abbrev pub string_text : List ℕ → List ℕ
string_text text = codes " string " ++ quoted text

-- a document, by its size in bytes
abbrev pub inner_document_text : ℕ → List ℕ
inner_document_text size = codes " document " ++ decimal size

-- an array, by its size in bytes
abbrev pub array_text : ℕ → List ℕ
array_text size = codes " array " ++ decimal size

-- a space and the data, or nothing if there is no data
abbrev pub data_text : List ℕ → List ℕ
data_text [] = []
data_text (b ∷ rest) = codes " " ++ encode_lower (b ∷ rest)

-- a subtype, the number of data bytes, and the data
abbrev pub binary_text : ℕ → List ℕ → List ℕ
binary_text subtype bytes =
    codes " binary " ++ (encode_lower (subtype ∷ [])
    ++ (codes " " ++ (decimal (length bytes) ++ data_text bytes)))

abbrev pub boolean_text : Bool → List ℕ
boolean_text true = codes " boolean true"
boolean_text false = codes " boolean false"

-- milliseconds since 1970 in UTC
abbrev pub datetime_text : ℤ → List ℕ
datetime_text milliseconds = codes " datetime " ++ signed_decimal milliseconds

abbrev pub regex_text : List ℕ → List ℕ → List ℕ
regex_text pattern options = codes " regex " ++ (quoted pattern ++ (codes " " ++ quoted options))

-- a collection's name and the 12 bytes of an ObjectId
abbrev pub dbpointer_text : List ℕ → List ℕ → List ℕ
dbpointer_text name id = codes " dbpointer " ++ (quoted name ++ (codes " " ++ encode_lower id))

abbrev pub code_text : List ℕ → List ℕ
code_text text = codes " code " ++ quoted text

abbrev pub symbol_text : List ℕ → List ℕ
symbol_text text = codes " symbol " ++ quoted text

-- the code and the scope's size in bytes
abbrev pub codescope_text : List ℕ → ℕ → List ℕ
codescope_text code size = codes " codescope " ++ (quoted code ++ (codes " " ++ decimal size))

abbrev pub int32_text : ℤ → List ℕ
int32_text value = codes " int32 " ++ signed_decimal value

abbrev pub timestamp_text : ℕ → ℕ → List ℕ
timestamp_text seconds increment =
    codes " timestamp " ++ (decimal seconds ++ (codes " " ++ decimal increment))

abbrev pub int64_text : ℤ → List ℕ
int64_text value = codes " int64 " ++ signed_decimal value
