-- What is written of an input that is a file of records, if it begins as one, and else what another
-- command writes.
use Rattle.std.specs.Prelude.{◌≡◌, ◌⊎◌, ℕ, List, ◌++◌}
use Rattle.wire_frames.specs.{signature}
use Rattle.file_commands.specs.declared.msg.MessageForm.{MessageForm}
use Rattle.file_commands.specs.declared.msg.MessageForm.TheVariants.{Text, Json}
use Rattle.file_commands.specs.declared.json.Layout.TheVariants.{Lines}
use Rattle.file_commands.specs.declared.record_text.RecordForm.{RecordForm}
use Rattle.file_commands.specs.declared.record_text.RecordForm.TheVariants as form
use Rattle.file_commands.specs.Output.{TextOf}
use Rattle.file_commands.specs.Records.{AllRecords, FirstRecords, RecordsText}

-- Bytes that begin with the signature of a file of records are told by what follows it, and all
-- other bytes as they are.
abbrev pub RecordsOr : (List ℕ → Type 0) → (List ℕ → Type 0) → List ℕ → Type 0
RecordsOr Records Others bytes =
    ((behind : List ℕ) × (bytes ≡ signature ++ behind) × Records behind)
    ⊎ (((behind : List ℕ) → bytes ≡ signature ++ behind → ⊥) × Others bytes)

-- What is written for bytes: of a file of records, which begins with the signature, the text of the
-- records behind it; and of other bytes this text.
abbrev pub TextOrRecords : RecordForm → TextOf → TextOf
TextOrRecords form Others bytes text fault =
    RecordsOr (λ behind. RecordsText form behind text fault) (λ other. Others other text fault)
    bytes

-- the texts of the first few records of such a file; of other bytes these texts
abbrev pub FirstOrRecords : RecordForm → (List ℕ → List ℕ → Type 0) → List ℕ → List ℕ → Type 0
FirstOrRecords form Others bytes texts =
    RecordsOr (λ behind. FirstRecords form behind texts) (λ other. Others other texts) bytes

-- the texts of all records of such a file, up to the first fault; of other bytes these texts
abbrev pub AllOrRecords : RecordForm → (List ℕ → List ℕ → Type 0) → List ℕ → List ℕ → Type 0
AllOrRecords form Others bytes texts =
    RecordsOr (λ behind. AllRecords form behind texts) (λ other. Others other texts) bytes

-- how `msg` writes records: as `msg --any`, or as `json`
abbrev pub as_messages : MessageForm → RecordForm
as_messages Text = form.Text
as_messages (Json mode) = form.Json mode Lines
