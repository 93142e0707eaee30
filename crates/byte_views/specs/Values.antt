-- The bytes of a value that holds no document.
use Rattle.std.specs.Prelude.{ℕ, List, [], ◌∷◌, ◌++◌}
use Rattle.std.specs.Int.{w64, to_le_bytes}
use Rattle.bson_elem.specs.Spelling.{binary, cstring, little, string}
use Rattle.byte_views.specs.declared.build.value.Value.{Value}
use Rattle.byte_views.specs.declared.build.value.Value.TheVariants as values

-- what is written of a value
abbrev pub value_bytes : Value → List ℕ
value_bytes (values.Byte byte) = byte ∷ []
value_bytes (values.Four number) = little number
value_bytes (values.Eight number) = to_le_bytes w64 number
value_bytes (values.Timestamp increment seconds) = little increment ++ little seconds
value_bytes (values.Bytes bytes) = bytes.now
value_bytes (values.Text text behind) = string text.now ++ behind.now
value_bytes (values.Binary subtype bytes) = binary subtype bytes.now
value_bytes (values.Regex pattern options) = cstring pattern.now ++ cstring options.now
