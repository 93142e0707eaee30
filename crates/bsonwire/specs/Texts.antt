-- What a command writes.
use Rattle.std.specs.Prelude.{ℕ, List, Bool, true, false}
use Rattle.bsonwire.specs.declared.choice.Command.{Command}
use Rattle.bsonwire.specs.declared.choice.Command.TheVariants.{Dump, Check, Canon, Json, Msg}
use Rattle.bsonwire.specs.declared.choice.Command.TheVariants.{Any, Bson, Play}
use Rattle.bsonwire.specs.declared.choice.Reading.TheVariants.{Bytes, Hex, Salvage}
use Rattle.file_commands.specs.declared.record_text.RecordForm.TheVariants as records
use Rattle.file_commands.specs.{AllBson, AllFrames, AllMessages, AllOrRecords, AllTexts, AnyText}
use Rattle.file_commands.specs.{BsonText, CanonText, CheckText, DumpText, FirstBson, FirstFrames}
use Rattle.file_commands.specs.{FirstMessages, FirstOrRecords, FirstSalvaged, FirstTexts, IsAllOf}
use Rattle.file_commands.specs.{IsFirstOf, IsOutput, JsonText}
use Rattle.file_commands.specs.{MayBeJson, MsgText, SalvageText, SalvagedSoFar}
use Rattle.file_commands.specs.{TextOrRecords, as_messages, canon_of, check_of, dump_of}
use Rattle.file_commands.specs.{told_at, told_by}
use Rattle.wire_play.specs.{ScriptText}

-- what a command writes for an input, and whether the input has a fault
abbrev pub CommandText : Command → List ℕ → List ℕ → Bool → Type 0
CommandText (Dump hex offsets) = IsOutput (DumpText offsets) hex
CommandText (Check Bytes) = IsOutput CheckText false
CommandText (Check Hex) = IsOutput CheckText true
CommandText (Check Salvage) = SalvageText (told_by check_of) true 16793600
CommandText (Canon Bytes) = IsOutput (CanonText 2147483647 false) false
CommandText (Canon Hex) = IsOutput (CanonText 2147483647 true) true
CommandText (Canon Salvage) = SalvageText (told_by (canon_of 2147483647 false)) false 16793600
CommandText (Json hex mode layout) =
    IsOutput (TextOrRecords (records.Json mode layout) (JsonText mode layout)) hex
CommandText Bson = BsonText
CommandText (Msg hex form) = IsOutput (TextOrRecords (as_messages form) (MsgText form)) hex
CommandText (Any hex) = IsOutput (TextOrRecords records.Text AnyText) hex
CommandText Play = ScriptText

-- Whether these are the texts of the first few documents, messages or records in an input, if a
-- command reads it piece by piece or as hexadecimal text.
abbrev pub FirstOf : Command → List ℕ → List ℕ → Type 0
FirstOf (Dump hex offsets) = IsFirstOf (FirstTexts (told_at (dump_of offsets))) hex
FirstOf (Check Bytes) = IsFirstOf (FirstTexts (told_by check_of)) false
FirstOf (Check Hex) = IsFirstOf (FirstTexts (told_by check_of)) true
FirstOf (Check Salvage) = FirstSalvaged (told_by check_of) true 16793600
FirstOf (Canon Bytes) = IsFirstOf (FirstTexts (told_by (canon_of 2147483647 false))) false
FirstOf (Canon Hex) = IsFirstOf (FirstTexts (told_by (canon_of 2147483647 true))) true
FirstOf (Canon Salvage) = FirstSalvaged (told_by (canon_of 2147483647 false)) false 16793600
FirstOf (Json hex mode layout) = IsFirstOf
    (FirstOrRecords (records.Json mode layout) (FirstTexts (MayBeJson mode layout))) hex
FirstOf Bson = FirstBson
FirstOf (Msg hex form) = IsFirstOf (FirstOrRecords (as_messages form) (FirstMessages form)) hex
FirstOf (Any hex) = IsFirstOf (FirstOrRecords records.Text FirstFrames) hex
FirstOf _ = λ input texts. ⊥

-- Whether these are the texts of all of them, up to the first fault, and with `--hex` none.
abbrev pub AllOf : Command → List ℕ → List ℕ → Type 0
AllOf (Dump hex offsets) = IsAllOf (AllTexts (told_at (dump_of offsets))) hex
AllOf (Check Bytes) = IsAllOf (AllTexts (told_by check_of)) false
AllOf (Check Hex) = IsAllOf (AllTexts (told_by check_of)) true
AllOf (Check Salvage) = SalvagedSoFar (told_by check_of) true 16793600
AllOf (Canon Bytes) = IsAllOf (AllTexts (told_by (canon_of 2147483647 false))) false
AllOf (Canon Hex) = IsAllOf (AllTexts (told_by (canon_of 2147483647 true))) true
AllOf (Canon Salvage) = SalvagedSoFar (told_by (canon_of 2147483647 false)) false 16793600
AllOf (Json hex mode layout) = IsAllOf
    (AllOrRecords (records.Json mode layout) (AllTexts (MayBeJson mode layout))) hex
AllOf Bson = AllBson
AllOf (Msg hex form) = IsAllOf (AllOrRecords (as_messages form) (AllMessages form)) hex
AllOf (Any hex) = IsAllOf (AllOrRecords records.Text AllFrames) hex
AllOf _ = λ input texts. ⊥

-- whether a command reads all of its input before it writes
abbrev pub reads_first : Command → Bool
reads_first Play = true
reads_first _ = false
