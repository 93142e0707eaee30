-- What a parse holds names a choice, unless flags don't go together.
use Rattle.std.proofs.Common.{◌≡◌, ◌⊎◌, ◌∙◌, refl, ap, sym, subst, Bool, true, false, not, ◌&&◌, List, [], ◌∷◌, Option, Some, None, codes, true≢false, inl, inr}
use Rattle.std.specs.Prelude.{⊤, if◌then◌else◌}
use Rattle.std.specs.Option.{option_map_or}
use Rattle.std.specs.Str.{bytes_eq}
use Rattle.clap.specs.Words.{Kinds, Row, Text}
use Rattle.clap.specs.declared.error.kind.ErrorKind.{ErrorKind}
use Rattle.command_words.specs.{HoldsFlag, IsMet, was_given}
use Rattle.command_words.specs.declared.table.Form.{Form}
use Rattle.bsonwire.specs.declared.choice.Command.{Command}
use Rattle.bsonwire.specs.declared.choice.Command.TheVariants.{Any, Dump, Check, Canon, Json, Bson, Msg, Play}
use Rattle.bson_json.specs.declared.mode.Mode.{Mode}
use Rattle.bson_json.specs.declared.mode.Mode.TheVariants.{Canonical, Relaxed}
use Rattle.file_commands.specs.declared.json.Layout.{Layout}
use Rattle.file_commands.specs.declared.json.Layout.TheVariants.{Lines, Array}
use Rattle.file_commands.specs.declared.msg.MessageForm.{MessageForm}
use Rattle.file_commands.specs.declared.msg.MessageForm.TheVariants.{Text as in_text, Json as in_json}
use Rattle.bsonwire.specs.declared.choice.Reading.{Reading}
use Rattle.bsonwire.specs.declared.choice.Reading.TheVariants.{Bytes, Hex, Salvage}
use Rattle.bsonwire.specs.Choices.{HasCalls, HasFile, HasQuiet, HoldsHex, HoldsMessageForm, HoldsReading, IsCommand, MakeChoices, MayChoose, NamesSubcommand, flags_fault, is_array, is_relaxed}

-- whether a flag that is held was given
read : Option Text → Bool
read o = option_map_or (λ text. bytes_eq text (codes "true")) o false

-- the flags of `check` or `canon` make a way to read, but for a `--salvage` beside `--hex`
reading_by : (hex salvage : Bool) (rows : List Row) → HoldsHex hex rows → HoldsFlag (codes "salvage") salvage rows
    → (was_given (codes "salvage") rows && was_given (codes "hex") rows) ≡ false → (reading : Reading) × HoldsReading reading rows
unfolding read
reading_by false false rows is is' apart = (Bytes, (is, is'))
reading_by true false rows is is' apart = (Hex, (is, is'))
reading_by false true rows is is' apart = (Salvage, (is, is'))
reading_by true true rows is is' apart =
    let both : (was_given (codes "salvage") rows && was_given (codes "hex") rows) ≡ true =
    ap (λ (o : Option Text). read o && was_given (codes "hex") rows) is' ∙ ap read is in
    absurd (true≢false (sym both ∙ apart))

mode_by : (relaxed : Bool) → (mode : Mode) × (relaxed ≡ is_relaxed mode)
mode_by false = (Canonical, refl)
mode_by true = (Relaxed, refl)

layout_by : (array : Bool) → (layout : Layout) × (array ≡ is_array layout)
layout_by false = (Lines, refl)
layout_by true = (Array, refl)

-- the flags of `msg` without `--any` make a form, but for a `--relaxed` that wants `--json`
form_by : (json relaxed : Bool) (rows : List Row) → HoldsFlag (codes "json") json rows → HoldsFlag (codes "relaxed") relaxed rows
    → (was_given (codes "relaxed") rows && not (was_given (codes "json") rows)) ≡ false → (form : MessageForm) × HoldsMessageForm form rows
unfolding read
form_by false false rows is is' whole = (in_text, (is, is'))
form_by true relaxed rows is is' whole =
    let mode = mode_by relaxed in
    (in_json mode.0, (is, subst (λ (b : Bool). HoldsFlag (codes "relaxed") b rows) mode.1 is'))
form_by false true rows is is' whole =
    let wanted : (was_given (codes "relaxed") rows && not (was_given (codes "json") rows)) ≡ true =
    ap (λ (o : Option Text). read o && not (was_given (codes "json") rows)) is' ∙ ap (λ (o : Option Text). not (read o)) is in
    absurd (true≢false (sym wanted ∙ whole))

-- those with it stand without `--json`
json_apart : (json : Bool) (rows : List Row) → HoldsFlag (codes "json") json rows → HoldsFlag (codes "any") true rows
    → (was_given (codes "any") rows && was_given (codes "json") rows) ≡ false → HoldsFlag (codes "json") false rows
unfolding read
json_apart false rows is is' apart = is
json_apart true rows is is' apart =
    let both : (was_given (codes "any") rows && was_given (codes "json") rows) ≡ true =
    ap (λ (o : Option Text). read o && was_given (codes "json") rows) is' ∙ ap read is in
    absurd (true≢false (sym both ∙ apart))

-- where the form of messages isn't JSON, the flags are those of text
text_form : (form : MessageForm) (rows : List Row) → HoldsMessageForm form rows → HoldsFlag (codes "json") false rows → HoldsFlag (codes "relaxed") false rows
unfolding read
text_form in_text rows held is = held.1
text_form (in_json mode) rows held is = absurd (true≢false (ap read (sym held.0 ∙ is)))

-- the flags of `msg` make a command
msg_by : (hex any json relaxed : Bool) (rows : List Row) → HoldsHex hex rows → HoldsFlag (codes "any") any rows → HoldsFlag (codes "json") json rows → HoldsFlag (codes "relaxed") relaxed rows
    → (was_given (codes "relaxed") rows && not (was_given (codes "json") rows)) ≡ false → (was_given (codes "any") rows && was_given (codes "json") rows) ≡ false
    → (command : Command) × IsCommand command (codes "msg") rows
msg_by hex false json relaxed rows h a j r whole apart =
    let form = form_by json relaxed rows j r whole in
    (Msg hex form.0, (refl, h, form.1, a))
msg_by hex true json relaxed rows h a j r whole apart =
    let form = form_by json relaxed rows j r whole in
    let text = json_apart json rows j a apart in
    (Any hex, (refl, h, text, text_form form.0 rows form.1 text, a))

-- ---- the flags of a subcommand whose faults are none

is_some_kind : Kinds → Bool
is_some_kind [] = false
is_some_kind (k ∷ ks) = true

unless : (b : Bool) (k : ErrorKind) (rest : Kinds) → (if b then k ∷ [] else rest) ≡ [] → (b ≡ false) × (rest ≡ [])
unfolding is_some_kind
unless false k rest e = (refl, e)
unless true k rest e = absurd (true≢false (ap is_some_kind e))

-- the flags of `json` make a command
json_by : (hex relaxed array : Bool) (rows : List Row) → HoldsHex hex rows → HoldsFlag (codes "relaxed") relaxed rows → HoldsFlag (codes "array") array rows
    → (command : Command) × IsCommand command (codes "json") rows
json_by hex relaxed array rows h r a =
    let mode = mode_by relaxed in
    let layout = layout_by array in
    let in_mode = subst (λ (b : Bool). HoldsFlag (codes "relaxed") b rows) mode.1 r in
    let in_layout = subst (λ (b : Bool). HoldsFlag (codes "array") b rows) layout.1 a in
    (Json hex mode.0 layout.0, (refl, h, (in_mode, in_layout)))

-- ---- the choice

-- the matches hold this flag
abbrev HasFlag : Text → List Row → Type 0
HasFlag name rows = (given : Bool) × HoldsFlag name given rows

abbrev HasHex : List Row → Type 0
HasHex = HasFlag (codes "hex")

-- the subcommand makes a choice where its flags go together
abbrev Chooses : Text → List Row → Type 0
Chooses name rows = flags_fault (Some (name, rows)) ≡ [] → NamesSubcommand name rows

-- what the rows of each subcommand say
abbrev pub HoldsDump : List Row → Type 0
HoldsDump rows = HasFile rows × (HasQuiet rows × (HasHex rows × (HasFlag (codes "offsets") rows × ⊤)))

abbrev pub HoldsSalvage : List Row → Type 0
HoldsSalvage rows = HasFile rows × (HasQuiet rows × (HasHex rows × (HasFlag (codes "salvage") rows × ⊤)))

abbrev pub HoldsMsg : List Row → Type 0
HoldsMsg rows = HasFile rows × (HasQuiet rows × (HasHex rows × (HasFlag (codes "json") rows × (HasFlag (codes "relaxed") rows × (HasFlag (codes "any") rows × ⊤)))))

abbrev pub HoldsJson : List Row → Type 0
HoldsJson rows = HasFile rows × (HasQuiet rows × (HasHex rows × (HasFlag (codes "relaxed") rows × (HasFlag (codes "array") rows × ⊤))))

abbrev pub HoldsText : List Row → Type 0
HoldsText rows = HasFile rows × (HasQuiet rows × ⊤)

abbrev pub HoldsLoop : List Row → Type 0
HoldsLoop rows = HasCalls rows × ⊤

dump_names : (rows : List Row) → HoldsDump rows → Chooses (codes "dump") rows
dump_names rows (file, (quiet, (hex, (offsets, end)))) none = inl ((Dump hex.0 offsets.0, (refl, hex.1, offsets.1)), file, quiet)

check_names : (rows : List Row) → HoldsSalvage rows → Chooses (codes "check") rows
check_names rows (file, (quiet, (hex, (salvage, end)))) none =
    let apart = unless (was_given (codes "salvage") rows && was_given (codes "hex") rows) _ _ none in
    let reading = reading_by hex.0 salvage.0 rows hex.1 salvage.1 apart.0 in
    inl ((Check reading.0, (refl, reading.1)), file, quiet)

canon_names : (rows : List Row) → HoldsSalvage rows → Chooses (codes "canon") rows
canon_names rows (file, (quiet, (hex, (salvage, end)))) none =
    let apart = unless (was_given (codes "salvage") rows && was_given (codes "hex") rows) _ _ none in
    let reading = reading_by hex.0 salvage.0 rows hex.1 salvage.1 apart.0 in
    inl ((Canon reading.0, (refl, reading.1)), file, quiet)

msg_names : (rows : List Row)
    → HoldsMsg rows → Chooses (codes "msg") rows
msg_names rows (file, (quiet, (hex, (json, (relaxed, (any, end)))))) none =
    let whole = unless (was_given (codes "relaxed") rows && not (was_given (codes "json") rows)) _ _ none in
    let apart = unless (was_given (codes "any") rows && was_given (codes "json") rows) _ _ whole.1 in
    inl (msg_by hex.0 any.0 json.0 relaxed.0 rows hex.1 any.1 json.1 relaxed.1 whole.0 apart.0, file, quiet)

json_names : (rows : List Row) → HoldsJson rows → Chooses (codes "json") rows
json_names rows (file, (quiet, (hex, (relaxed, (array, end))))) none = inl (json_by hex.0 relaxed.0 array.0 rows hex.1 relaxed.1 array.1, file, quiet)

text_names : (command : Command) (name : Text) → ((rows : List Row) → IsCommand command name rows) → (rows : List Row) → HoldsText rows → Chooses name rows
text_names command name is rows (file, (quiet, end)) none = inl ((command, is rows), file, quiet)

loop_names : (rows : List Row) → HoldsLoop rows → Chooses (codes "loop") rows
loop_names rows (calls, end) none = inr (refl, calls)

-- what holds of the name holds of one that is the same
named : (name other : Text) (rows : List Row) → name ≡ other → Chooses other rows → Chooses name rows
named name other rows is chooses = subst (λ (n : Text). Chooses n rows) (sym is) chooses

-- the name is that of a subcommand, and the matches hold what its rows say
abbrev pub IsOfTable : Text → List Row → Type 0
IsOfTable name rows =
    ((name ≡ codes "dump") × HoldsDump rows) ⊎ ((name ≡ codes "check") × HoldsSalvage rows) ⊎ ((name ≡ codes "canon") × HoldsSalvage rows) ⊎ ((name ≡ codes "msg") × HoldsMsg rows)
    ⊎ ((name ≡ codes "json") × HoldsJson rows) ⊎ ((name ≡ codes "bson") × HoldsText rows) ⊎ ((name ≡ codes "play") × HoldsText rows) ⊎ ((name ≡ codes "loop") × HoldsLoop rows) ⊎ ⊥

names : (name : Text) (rows : List Row) → IsOfTable name rows → Chooses name rows
names name rows (inl (is, held)) = named name _ rows is (dump_names rows held)
names name rows (inr (inl (is, held))) = named name _ rows is (check_names rows held)
names name rows (inr (inr (inl (is, held)))) = named name _ rows is (canon_names rows held)
names name rows (inr (inr (inr (inl (is, held))))) = named name _ rows is (msg_names rows held)
names name rows (inr (inr (inr (inr (inl (is, held)))))) = named name _ rows is (json_names rows held)
names name rows (inr (inr (inr (inr (inr (inl (is, held))))))) = named name _ rows is (text_names Bson (codes "bson") (λ rows. refl) rows held)
names name rows (inr (inr (inr (inr (inr (inr (inl (is, held)))))))) = named name _ rows is (text_names Play (codes "play") (λ rows. refl) rows held)
names name rows (inr (inr (inr (inr (inr (inr (inr (inl (is, held))))))))) = named name _ rows is (loop_names rows held)
names name rows (inr (inr (inr (inr (inr (inr (inr (inr none)))))))) = absurd none

pub of_table : (name : Text) (rows : List Row) → IsOfTable name rows → MayChoose (Some (name, rows))
of_table name rows is = names name rows is

pub met_may_choose : (forms : List Form) → MakeChoices forms → (met : Option (Text × List Row)) → IsMet forms met → MayChoose met
met_may_choose forms makes None met = absurd met
met_may_choose forms makes (Some met) is = makes met.0 met.1 is
