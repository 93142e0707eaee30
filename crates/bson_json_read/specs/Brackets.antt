-- The brackets of JSON texts (RFC 8259, section 2).
use Rattle.std.specs.Prelude.{ℕ}
use Rattle.json.specs.Token as token
use Rattle.bson_json_read.specs.declared.bracket.Bracket.{Bracket}
use Rattle.bson_json_read.specs.declared.bracket.Bracket.TheVariants.{BeginObject, EndObject}
use Rattle.bson_json_read.specs.declared.bracket.Bracket.TheVariants.{BeginArray, EndArray}

-- the byte of a bracket
abbrev pub byte_of : Bracket → ℕ
byte_of BeginObject = 123
byte_of EndObject = 125
byte_of BeginArray = 91
byte_of EndArray = 93

-- the token of a bracket
abbrev pub token_of : Bracket → token.Token
token_of BeginObject = token.begin_object
token_of EndObject = token.end_object
token_of BeginArray = token.begin_array
token_of EndArray = token.end_array
