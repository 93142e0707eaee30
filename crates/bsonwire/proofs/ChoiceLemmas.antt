-- What a choice reads of the matches.
use Rattle.std.proofs.Common.{◌≡◌, ◌∙◌, ap, sym, Bool, true, false, true≢false, List, codes}
use Rattle.clap.specs.Words.{Row}
use Rattle.command_words.proofs.Lemmas.{reads_true}
use Rattle.command_words.specs.{HoldsFlag}
use Rattle.bsonwire.specs.declared.choice.Reading.{Reading}
use Rattle.bsonwire.specs.declared.choice.Reading.TheVariants.{Bytes, Hex, Salvage}
use Rattle.bsonwire.specs.Choices.{HoldsHex, HoldsMessageForm, HoldsReading, is_relaxed}
use Rattle.file_commands.specs.declared.msg.MessageForm.{MessageForm}
use Rattle.file_commands.specs.declared.msg.MessageForm.TheVariants.{Text as in_text, Json as in_json}

-- ---- the flags of `msg`

pub json_held : (form : MessageForm) (rows : List Row) → HoldsMessageForm form rows → (given : Bool) × HoldsFlag (codes "json") given rows
json_held in_text rows held = (false, held.0)
json_held (in_json mode) rows held = (true, held.0)

pub relaxed_held : (form : MessageForm) (rows : List Row) → HoldsMessageForm form rows → (given : Bool) × HoldsFlag (codes "relaxed") given rows
relaxed_held in_text rows held = (false, held.1)
relaxed_held (in_json mode) rows held = (is_relaxed mode, held.1)

-- where `--json` wasn't given, `--relaxed` wasn't
pub text_held : (form : MessageForm) (rows : List Row) → HoldsMessageForm form rows → HoldsFlag (codes "json") false rows → HoldsMessageForm in_text rows
text_held in_text rows held is = held
text_held (in_json mode) rows held is = absurd (true≢false (ap reads_true (sym held.0 ∙ is)))

-- ---- the flags of `check` and `canon`

pub salvage_held : (reading : Reading) (rows : List Row) → HoldsReading reading rows → (given : Bool) × HoldsFlag (codes "salvage") given rows
salvage_held Bytes rows held = (false, held.1)
salvage_held Hex rows held = (false, held.1)
salvage_held Salvage rows held = (true, held.1)

pub hex_held : (reading : Reading) (rows : List Row) → HoldsReading reading rows → (given : Bool) × HoldsHex given rows
hex_held Bytes rows held = (false, held.0)
hex_held Hex rows held = (true, held.0)
hex_held Salvage rows held = (false, held.0)

-- where `--salvage` was given, `--hex` wasn't
pub salvage_read : (reading : Reading) (rows : List Row) → HoldsReading reading rows → HoldsFlag (codes "salvage") true rows → HoldsReading Salvage rows
salvage_read Bytes rows held is = absurd (true≢false (ap reads_true (sym is ∙ held.1)))
salvage_read Hex rows held is = absurd (true≢false (ap reads_true (sym is ∙ held.1)))
salvage_read Salvage rows held is = held
