-- What a choice takes from the matches that `clap` makes of the words.
use Rattle.std.specs.Prelude.{◌≡◌, ◌⊎◌, ℕ, List, Bool, true, false, Option, Some, None, []}
use Rattle.std.specs.Prelude.{◌∷◌, ◌&&◌, ◌||◌, not, is_some, codes, if◌then◌else◌}
use Rattle.std.specs.Str.{bytes_eq}
use Rattle.clap.specs.Kinds.{or_else}
use Rattle.clap.specs.Words.{Kinds, Row, Text, fault_of, first_of, one_of, subcommand_of}
use Rattle.clap.specs.declared.error.kind.ErrorKind.{ErrorKind}
use Rattle.clap.specs.declared.error.kind.ErrorKind.TheVariants as kind
use Rattle.command_words.specs.{HoldsFlag, IsCount, was_given}
use Rattle.command_words.specs.Tables.{IsOfForm}
use Rattle.command_words.specs.declared.table.Form.{Form}
use Rattle.bsonwire.specs.declared.choice.Choice.{Choice}
use Rattle.bsonwire.specs.declared.choice.Choice.TheVariants.{Loop, Over}
use Rattle.bsonwire.specs.declared.choice.Command.{Command}
use Rattle.bsonwire.specs.declared.choice.Command.TheVariants.{Dump, Check, Canon, Json, Msg}
use Rattle.bsonwire.specs.declared.choice.Command.TheVariants.{Any, Bson, Play}
use Rattle.bsonwire.specs.declared.choice.Reading.{Reading}
use Rattle.bsonwire.specs.declared.choice.Reading.TheVariants.{Bytes, Hex, Salvage}
use Rattle.bsonwire.specs.declared.command_line.Clash.{Clash}
use Rattle.bsonwire.specs.declared.command_line.Clash.TheVariants.{JsonWanted, AnyBesideJson}
use Rattle.bsonwire.specs.declared.command_line.Clash.TheVariants.{CheckSalvagesText}
use Rattle.bsonwire.specs.declared.command_line.Clash.TheVariants.{CanonSalvagesText}
use Rattle.bsonwire.specs.CommandLine.{command_line}
use Rattle.bson_json.specs.declared.mode.Mode.{Mode}
use Rattle.bson_json.specs.declared.mode.Mode.TheVariants.{Canonical, Relaxed}
use Rattle.file_commands.specs.declared.json.Layout.{Layout}
use Rattle.file_commands.specs.declared.json.Layout.TheVariants.{Lines, Array}
use Rattle.file_commands.specs.declared.msg.MessageForm.{MessageForm}
use Rattle.file_commands.specs.declared.msg.MessageForm.TheVariants.{Text as in_text}
use Rattle.file_commands.specs.declared.msg.MessageForm.TheVariants.{Json as in_json}

-- ---- what the matches of a subcommand hold

-- they hold this operand FILE or SCRIPT
abbrev pub HoldsFile : Text → List Row → Type 0
HoldsFile file rows = first_of (codes "file") rows ≡ Some file

-- they hold this `--quiet`
abbrev pub HoldsQuiet : Bool → List Row → Type 0
HoldsQuiet quiet rows = HoldsFlag (codes "quiet") quiet rows

-- they hold this `--hex`
abbrev pub HoldsHex : Bool → List Row → Type 0
HoldsHex hex rows = HoldsFlag (codes "hex") hex rows

-- `--relaxed` and `--array`
abbrev pub is_relaxed : Mode → Bool
is_relaxed Canonical = false
is_relaxed Relaxed = true

abbrev pub is_array : Layout → Bool
is_array Lines = false
is_array Array = true

-- they hold the flags of `json`
abbrev pub HoldsForm : Mode → Layout → List Row → Type 0
HoldsForm mode layout rows =
    HoldsFlag (codes "relaxed") (is_relaxed mode) rows
    × HoldsFlag (codes "array") (is_array layout) rows

-- they hold the flags of `check` or `canon`: `--salvage`, or else maybe `--hex`
abbrev pub HoldsReading : Reading → List Row → Type 0
HoldsReading Bytes rows = HoldsHex false rows × HoldsFlag (codes "salvage") false rows
HoldsReading Hex rows = HoldsHex true rows × HoldsFlag (codes "salvage") false rows
HoldsReading Salvage rows = HoldsHex false rows × HoldsFlag (codes "salvage") true rows

-- they hold the flags of `msg`: `--json`, and with it maybe `--relaxed`
abbrev pub HoldsMessageForm : MessageForm → List Row → Type 0
HoldsMessageForm in_text rows =
    HoldsFlag (codes "json") false rows × HoldsFlag (codes "relaxed") false rows
HoldsMessageForm (in_json mode) rows =
    HoldsFlag (codes "json") true rows × HoldsFlag (codes "relaxed") (is_relaxed mode) rows

-- they hold this operand N
abbrev pub HoldsCalls : ℕ → List Row → Type 0
HoldsCalls n rows = IsCount n (one_of (codes "calls") rows)

-- ---- the choice

-- the command is the subcommand with this name, and has the `--hex` that the matches hold
abbrev pub IsCommand : Command → Text → List Row → Type 0
IsCommand (Dump hex offsets) name rows =
    (name ≡ codes "dump") × HoldsHex hex rows × HoldsFlag (codes "offsets") offsets rows
IsCommand (Check reading) name rows = (name ≡ codes "check") × HoldsReading reading rows
IsCommand (Canon reading) name rows = (name ≡ codes "canon") × HoldsReading reading rows
IsCommand (Json hex mode layout) name rows =
    (name ≡ codes "json") × HoldsHex hex rows × HoldsForm mode layout rows
IsCommand Bson name rows = name ≡ codes "bson"
IsCommand (Msg hex form) name rows =
    (name ≡ codes "msg") × HoldsHex hex rows × HoldsMessageForm form rows
    × HoldsFlag (codes "any") false rows
IsCommand (Any hex) name rows =
    (name ≡ codes "msg") × HoldsHex hex rows × HoldsFlag (codes "json") false rows
    × HoldsFlag (codes "relaxed") false rows × HoldsFlag (codes "any") true rows
IsCommand Play name rows = name ≡ codes "play"

-- the choice is the subcommand with this name, and has what its matches hold
abbrev pub IsSubcommand : Choice → Text → List Row → Type 0
IsSubcommand (Over command file quiet) name rows =
    IsCommand command name rows × HoldsFile file.now rows × HoldsQuiet quiet rows
IsSubcommand (Loop calls) name rows = (name ≡ codes "loop") × HoldsCalls calls rows

-- there is a subcommand, and the choice is that one
abbrev pub IsMetSubcommand : Choice → Option (Text × List Row) → Type 0
IsMetSubcommand c None = ⊥
IsMetSubcommand c (Some met) = IsSubcommand c met.0 met.1

-- the choice is what the command line makes of the words
abbrev pub IsChosen : Choice → List Text → Type 0
IsChosen c words = IsMetSubcommand c (subcommand_of command_line words)

-- ---- the faults of words

-- whether the subcommand is `msg` with `--relaxed` and without `--json`
abbrev pub lacks_json : Option (Text × List Row) → Bool
lacks_json None = false
lacks_json (Some met) =
    bytes_eq met.0 (codes "msg")
    && (was_given (codes "relaxed") met.1 && not (was_given (codes "json") met.1))

-- whether the subcommand is `check` or `canon` with `--salvage` and `--hex`
abbrev pub salvages_text : Option (Text × List Row) → Bool
salvages_text None = false
salvages_text (Some met) =
    (bytes_eq met.0 (codes "check") || bytes_eq met.0 (codes "canon"))
    && (was_given (codes "salvage") met.1 && was_given (codes "hex") met.1)

-- whether the subcommand is `msg` with `--any` and `--json`
abbrev pub any_as_json : Option (Text × List Row) → Bool
any_as_json None = false
any_as_json (Some met) =
    bytes_eq met.0 (codes "msg")
    && (was_given (codes "any") met.1 && was_given (codes "json") met.1)

-- the fault of flags that don't go together
abbrev pub flags_fault : Option (Text × List Row) → Kinds
flags_fault met =
    if lacks_json met then kind.MissingRequiredArgument ∷ []
    else if salvages_text met then kind.ArgumentConflict ∷ []
    else if any_as_json met then kind.ArgumentConflict ∷ [] else []

-- the kind of the error that tells of a clash
abbrev pub kind_of_clash : Clash → ErrorKind
kind_of_clash JsonWanted = kind.MissingRequiredArgument
kind_of_clash CheckSalvagesText = kind.ArgumentConflict
kind_of_clash CanonSalvagesText = kind.ArgumentConflict
kind_of_clash AnyBesideJson = kind.ArgumentConflict

abbrev pub kinds_of_clash : Option Clash → Kinds
kinds_of_clash None = []
kinds_of_clash (Some clash) = kind_of_clash clash ∷ []

-- the kinds of the faults of words: those that `clap` finds, or else that of their flags
abbrev pub words_fault : List Text → Kinds
words_fault words =
    or_else (fault_of command_line words) (flags_fault (subcommand_of command_line words))

-- ---- that there is a choice

-- the matches hold an operand FILE or SCRIPT
abbrev pub HasFile : List Row → Type 0
HasFile rows = is_some (first_of (codes "file") rows) ≡ true

-- the matches hold a `--quiet`
abbrev pub HasQuiet : List Row → Type 0
HasQuiet rows = (quiet : Bool) × HoldsQuiet quiet rows

-- the subcommand with this name reads an input
abbrev pub NamesCommand : Text → List Row → Type 0
NamesCommand name rows = (c : Command) × IsCommand c name rows

-- the matches hold an operand N
abbrev pub HasCalls : List Row → Type 0
HasCalls rows = (n : ℕ) × HoldsCalls n rows

-- the subcommand with this name reads an input, which its matches hold beside `--quiet`; or it is
-- `loop`, and they hold the number of calls
abbrev pub NamesSubcommand : Text → List Row → Type 0
NamesSubcommand name rows =
    (NamesCommand name rows × HasFile rows × HasQuiet rows)
    ⊎ ((name ≡ codes "loop") × HasCalls rows)

-- there is a subcommand, and its matches make a choice
abbrev pub NamesChoice : Option (Text × List Row) → Type 0
NamesChoice None = ⊥
NamesChoice (Some met) = NamesSubcommand met.0 met.1

-- there is a subcommand, and its matches make a choice unless its flags don't go together
abbrev pub MayChoose : Option (Text × List Row) → Type 0
MayChoose met = flags_fault met ≡ [] → NamesChoice met

-- what the matches of each of these commands hold makes a choice unless its flags don't go together
abbrev pub MakeChoices : List Form → Type 0
MakeChoices forms =
    (name : Text) (rows : List Row) → IsOfForm forms name rows → MayChoose (Some (name, rows))
