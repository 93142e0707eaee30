-- The exit status of what was chosen, and of the words of a command line.
use Rattle.std.specs.Prelude.{◌≡◌, ◌⊎◌, ⊤, ℕ, Bool, List, [], Result}
use Rattle.clap.specs.Words.{IsAmong, Kinds, Text}
use Rattle.clap.specs.declared.error.kind.ErrorKind.{ErrorKind}
use Rattle.clap.specs.declared.error.kind.ErrorKind.TheVariants as kind
use Rattle.command_words.specs.{words_status}
use Rattle.proxy.specs.declared.options.Options.{Options}
use Rattle.bsonproxy.specs.declared.choice.Choice.{Choice}
use Rattle.bsonproxy.specs.declared.choice.Choice.TheVariants.{Serve, Replay}
use Rattle.bsonproxy.specs.Choices.{IsChosen, words_fault}
use Rattle.bsonproxy.specs.Serving.{MayEnd, script_file, serve_status}
use Rattle.bsonproxy.specs.declared.fault.ServeFault.{ServeFault}

-- the status of a run that ended well, that failed to read, to write or to connect, or that ran out
-- of memory
abbrev pub IsStatusOfRun : ℕ → Type 0
IsStatusOfRun status = (status ≡ 0) ⊎ (status ≡ 3) ⊎ (status ≡ 4)

-- of a proxy, by what it came to: 2 for a script at fault, or for itself as its server
pub record IsStatusOfServe (options : Options) (status : ℕ) : Type 0 where
  pub ended : Result ⊤ ServeFault
  pub may : MayEnd (script_file options) ended
  pub is : status ≡ serve_status ended

-- of a replay also 1, for answers that differ, or a record at fault
abbrev pub IsStatusOfReplay : ℕ → Type 0
IsStatusOfReplay status = (status ≡ 1) ⊎ IsStatusOfRun status

-- the status of what was chosen
abbrev pub IsStatusFor : Choice → ℕ → Type 0
IsStatusFor (Serve options) status = IsStatusOfServe options status
IsStatusFor (Replay options) status = IsStatusOfReplay status

-- ---- words

-- memory ran out, or the words have a fault of this kind
abbrev pub MayRefuse : ErrorKind → Kinds → Type 0
MayRefuse k faults = (k ≡ kind.OutOfMemory) ⊎ IsAmong k faults

-- The status for the words of a command line: that of what they choose, if they have no fault, and
-- otherwise that of the fault, by whether its text could be printed.
abbrev pub IsStatusOf : List Text → ℕ → Type 0
IsStatusOf words status =
    ((choice : Choice) × IsChosen choice words × (words_fault words ≡ [])
    × IsStatusFor choice status)
    ⊎ ((k : ErrorKind) × (printed : Bool) × MayRefuse k (words_fault words)
    × (status ≡ words_status k printed))

-- the status of the program: that for the words of a command line, or one for words that can't be
-- read, as one isn't text or memory ran out
abbrev pub IsExitStatus : ℕ → Type 0
IsExitStatus status =
    ((words : List Text) × IsStatusOf words status) ⊎ (status ≡ 2) ⊎ (status ≡ 4)
