-- The exit status of a run's end, and of the words of a command line.
use Rattle.std.specs.Prelude.{◌≡◌, ◌≢◌, ◌⊎◌, ◌==◌, ◌||◌, ℕ, Bool, List, []}
use Rattle.clap.specs.Words.{IsAmong, Kinds, Text}
use Rattle.clap.specs.declared.error.kind.ErrorKind.{ErrorKind}
use Rattle.clap.specs.declared.error.kind.ErrorKind.TheVariants as kind
use Rattle.command_words.specs.{words_status}
use Rattle.command_run.specs.declared.run.RunEnd.{RunEnd}
use Rattle.command_run.specs.declared.run.RunEnd.TheVariants.{Good, Fault, Unread, InOut}
use Rattle.command_run.specs.declared.run.RunEnd.TheVariants.{OutOfMemory}
use Rattle.bsonwire.specs.declared.choice.Choice.{Choice}
use Rattle.bsonwire.specs.declared.choice.Choice.TheVariants.{Loop, Over}
use Rattle.bsonwire.specs.Choices.{IsChosen, words_fault}

-- the exit status of each end; 2 means a fault in the command line
abbrev pub exit_status : RunEnd → ℕ
exit_status Good = 0
exit_status Fault = 1
exit_status Unread = 3
exit_status InOut = 3
exit_status OutOfMemory = 4

-- the status says that the whole text was written
abbrev pub tells_done : ℕ → Bool
tells_done status = status == 0 || status == 1

-- the status says that the input has a fault
abbrev pub tells_fault : ℕ → Bool
tells_fault status = status == 1

-- ---- words

-- the status of what was chosen: that of an end, and of calls, that of an end without a fault
abbrev pub IsStatusFor : Choice → ℕ → Type 0
IsStatusFor (Over command file quiet) status = (end : RunEnd) × (status ≡ exit_status end)
IsStatusFor (Loop calls) status = (end : RunEnd) × (end ≢ Fault) × (status ≡ exit_status end)

-- memory ran out, or the words have a fault of this kind
abbrev pub MayRefuse : ErrorKind → Kinds → Type 0
MayRefuse k faults = (k ≡ kind.OutOfMemory) ⊎ IsAmong k faults

-- The status for the words of a command line: that of what they choose, if they have no fault, and
-- otherwise that of the fault, by whether its text could be printed.
abbrev pub IsStatusOf : List Text → ℕ → Type 0
IsStatusOf words status =
    ((choice : Choice) × IsChosen choice words × (words_fault words ≡ [])
    × IsStatusFor choice status)
    ⊎ ((k : ErrorKind) × (printed : Bool) × MayRefuse k (words_fault words)
    × (status ≡ words_status k printed))
