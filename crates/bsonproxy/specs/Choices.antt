-- What a choice takes from the matches that `clap` makes of the words.
use Rattle.std.specs.Prelude.{◌≡◌, ◌⊎◌, List, Bool, true, false, Option, Some, None, [], ◌∷◌}
use Rattle.std.specs.Prelude.{◌&&◌, not, is_some, codes, if◌then◌else◌, option_map}
use Rattle.std.specs.Str.{bytes_eq}
use Rattle.clap.specs.Kinds.{or_else}
use Rattle.clap.specs.Words.{Kinds, Row, Text, fault_of, first_of, one_of, subcommand_of}
use Rattle.clap.specs.declared.error.kind.ErrorKind.{ErrorKind}
use Rattle.clap.specs.declared.error.kind.ErrorKind.TheVariants as kind
use Rattle.command_words.specs.{AsksFor, AsksForMany, HasNumber, was_given}
use Rattle.command_words.specs.Tables.{IsOfForm}
use Rattle.command_words.specs.declared.table.Form.{Form}
use Rattle.proxy.specs.declared.options.Options.{Options}
use Rattle.proxy.specs.declared.options.Show.{Show}
use Rattle.proxy.specs.declared.options.Show.TheVariants.{Nothing, Text as as_text, Json as as_json}
use Rattle.replay.specs.declared.options.ReplayOptions.{ReplayOptions}
use Rattle.bsonproxy.specs.declared.choice.Choice.{Choice}
use Rattle.bsonproxy.specs.declared.choice.Choice.TheVariants.{Serve, Replay}
use Rattle.bsonproxy.specs.declared.command_line.Clash.{Clash}
use Rattle.bsonproxy.specs.declared.command_line.Clash.TheVariants.{RecordWanted, TextBesideJson}
use Rattle.bsonproxy.specs.CommandLine.{command_line}

-- ---- what the matches of a subcommand hold

-- how a proxy shows messages, by these flags
abbrev pub shown_by : List Row → Show
shown_by rows =
    if was_given (codes "json") rows then as_json
    else if was_given (codes "text") rows then as_text else Nothing

-- they hold what a proxy is to do
pub record HoldsOptions (o : Options) (rows : List Row) : Type 0 where
  pub listen : first_of (codes "listen") rows ≡ Some o.listen.now
  pub upstream : first_of (codes "upstream") rows ≡ Some o.upstream.now
  pub show : o.show ≡ shown_by rows
  pub connections : AsksForMany o.connections (one_of (codes "connections") rows)
  pub until_stdin_closes : o.until_stdin_closes ≡ was_given (codes "until-stdin-closes") rows
  pub port_file : option_map (λ file. file.now) o.port_file ≡ first_of (codes "port-file") rows
  pub script : option_map (λ file. file.now) o.script ≡ first_of (codes "script") rows
  pub seed : AsksFor o.seed (one_of (codes "seed") rows)
  pub records : option_map (λ file. file.now) o.«record» ≡ first_of (codes "record") rows
  pub limit : AsksForMany o.limit (one_of (codes "limit") rows)
  pub share : AsksFor o.share (one_of (codes "share") rows)

-- they hold what a replay is to do
pub record HoldsReplay (o : ReplayOptions) (rows : List Row) : Type 0 where
  pub file : first_of (codes "file") rows ≡ Some o.file.now
  pub address : first_of (codes "address") rows ≡ Some o.address.now
  pub ignore : option_map (λ names. names.now) o.ignore ≡ first_of (codes "ignore") rows
  pub speed : AsksFor o.speed (one_of (codes "speed") rows)

-- ---- the choice

-- the choice is the subcommand with this name, and has what its matches hold
abbrev pub IsSubcommand : Choice → Text → List Row → Type 0
IsSubcommand (Serve options) name rows = (name ≡ codes "serve") × HoldsOptions options rows
IsSubcommand (Replay options) name rows = (name ≡ codes "replay") × HoldsReplay options rows

-- there is a subcommand, and the choice is that one
abbrev pub IsMetSubcommand : Choice → Option (Text × List Row) → Type 0
IsMetSubcommand c None = ⊥
IsMetSubcommand c (Some met) = IsSubcommand c met.0 met.1

-- the choice is what the command line makes of the words
abbrev pub IsChosen : Choice → List Text → Type 0
IsChosen c words = IsMetSubcommand c (subcommand_of command_line words)

-- ---- the faults of words

-- whether the subcommand is `serve` with `--text` and `--json`
abbrev pub shows_twice : Option (Text × List Row) → Bool
shows_twice None = false
shows_twice (Some met) =
    bytes_eq met.0 (codes "serve")
    && (was_given (codes "text") met.1 && was_given (codes "json") met.1)

-- whether the subcommand is `serve` with `--limit` and without `--record`
abbrev pub lacks_record : Option (Text × List Row) → Bool
lacks_record None = false
lacks_record (Some met) =
    bytes_eq met.0 (codes "serve")
    && (is_some (first_of (codes "limit") met.1)
    && not (is_some (first_of (codes "record") met.1)))

-- the fault of flags that don't go together
abbrev pub flags_fault : Option (Text × List Row) → Kinds
flags_fault met =
    if shows_twice met then kind.ArgumentConflict ∷ []
    else if lacks_record met then kind.MissingRequiredArgument ∷ [] else []

-- the kind of the error that tells of a clash
abbrev pub kind_of_clash : Clash → ErrorKind
kind_of_clash TextBesideJson = kind.ArgumentConflict
kind_of_clash RecordWanted = kind.MissingRequiredArgument

abbrev pub kinds_of_clash : Option Clash → Kinds
kinds_of_clash None = []
kinds_of_clash (Some clash) = kind_of_clash clash ∷ []

-- the kinds of the faults of words: those that `clap` finds, or else that of their flags
abbrev pub words_fault : List Text → Kinds
words_fault words =
    or_else (fault_of command_line words) (flags_fault (subcommand_of command_line words))

-- ---- that there is a choice

-- they hold the two addresses of a proxy, and numbers where options give these
abbrev pub HasOptions : List Row → Type 0
HasOptions rows =
    (is_some (first_of (codes "listen") rows) ≡ true)
    × (is_some (first_of (codes "upstream") rows) ≡ true)
    × HasNumber (codes "connections") rows × HasNumber (codes "seed") rows
    × HasNumber (codes "limit") rows × HasNumber (codes "share") rows

-- they hold the file and the address of a replay, and a number where an option gives one
abbrev pub HasReplay : List Row → Type 0
HasReplay rows =
    (is_some (first_of (codes "file") rows) ≡ true)
    × (is_some (first_of (codes "address") rows) ≡ true) × HasNumber (codes "speed") rows

-- the subcommand is `serve` or `replay`, and its matches hold what that is to do
abbrev pub NamesSubcommand : Text → List Row → Type 0
NamesSubcommand name rows =
    ((name ≡ codes "serve") × HasOptions rows) ⊎ ((name ≡ codes "replay") × HasReplay rows)

-- there is a subcommand, and its matches make a choice
abbrev pub NamesChoice : Option (Text × List Row) → Type 0
NamesChoice None = ⊥
NamesChoice (Some met) = NamesSubcommand met.0 met.1

-- there is a subcommand, and its matches make a choice unless its flags don't go together
abbrev pub MayChoose : Option (Text × List Row) → Type 0
MayChoose met = flags_fault met ≡ [] → NamesChoice met

-- what the matches of each of these commands hold makes a choice unless its flags don't go together
abbrev pub MakeChoices : List Form → Type 0
MakeChoices forms =
    (name : Text) (rows : List Row) → IsOfForm forms name rows → MayChoose (Some (name, rows))
