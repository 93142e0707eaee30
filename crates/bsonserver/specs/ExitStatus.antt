-- The exit status of a server's end, and of the words of a command line.
use Rattle.std.specs.Prelude.{◌≡◌, ◌⊎◌, ℕ, Bool, List, [], Option}
use Rattle.clap.specs.Words.{IsAmong, Kinds, Text, fault_of}
use Rattle.clap.specs.declared.error.kind.ErrorKind.{ErrorKind}
use Rattle.clap.specs.declared.error.kind.ErrorKind.TheVariants as kind
use Rattle.command_words.specs.{words_status}
use Rattle.bsonserver.specs.declared.choice.Choice.{Choice}
use Rattle.bsonserver.specs.declared.ending.ServingEnd.{ServingEnd}
use Rattle.bsonserver.specs.declared.ending.ServingEnd.TheVariants.{Served, Script, ScriptFile}
use Rattle.bsonserver.specs.declared.ending.ServingEnd.TheVariants.{Stopped}
use Rattle.server_core.specs.declared.stop.Stop.TheVariants.{OutOfMemory}
use Rattle.bsonserver.specs.Choices.{IsChosen}
use Rattle.bsonserver.specs.CommandLine.{command_line}
use Rattle.bsonserver.specs.Runs.{EndsSo}

-- the exit status of each end; 2 also means a fault in the command line
abbrev pub exit_status : ServingEnd → ℕ
exit_status (Served n) = 0
exit_status (Script fault) = 2
exit_status (ScriptFile error) = 3
exit_status (Stopped OutOfMemory) = 4
exit_status (Stopped why) = 3

-- ---- words

-- the status of what was chosen: that of the end of a run, or of a want of memory before it
abbrev pub IsStatusFor : Choice → ℕ → Type 0
IsStatusFor choice status =
    (end : ServingEnd) × (before : Option (List ℕ)) × (after : Option (List ℕ))
    × EndsSo choice end before after × (status ≡ exit_status end)

-- memory ran out, or the words have a fault of this kind
abbrev pub MayRefuse : ErrorKind → Kinds → Type 0
MayRefuse k faults = (k ≡ kind.OutOfMemory) ⊎ IsAmong k faults

-- The status for the words of a command line: that of what they choose, if they have no fault, and
-- otherwise that of the fault, by whether its text could be printed.
abbrev pub IsStatusOf : List Text → ℕ → Type 0
IsStatusOf words status =
    ((choice : Choice) × IsChosen choice words × (fault_of command_line words ≡ [])
    × IsStatusFor choice status)
    ⊎ ((k : ErrorKind) × (printed : Bool) × MayRefuse k (fault_of command_line words)
    × (status ≡ words_status k printed))

-- the status of the program: that for the words of a command line, or one for words that can't be
-- read, as one isn't text or memory ran out
abbrev pub IsExitStatus : ℕ → Type 0
IsExitStatus status =
    ((words : List Text) × IsStatusOf words status) ⊎ (status ≡ 2) ⊎ (status ≡ 4)
