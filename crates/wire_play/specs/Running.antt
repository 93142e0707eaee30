-- What `play` writes, and how a run ends whose play stopped.
use Rattle.std.specs.Prelude.{◌≡◌, ℕ, List, ◌++◌, Bool, Option, None, Some, codes}
use Rattle.command_run.specs.declared.run.RunEnd.{RunEnd}
use Rattle.command_run.specs.declared.run.RunEnd.TheVariants as run
use Rattle.command_run.specs.{fault_line, is_there, or_nothing}
use Rattle.wire_play.specs.declared.playing.PlayStop.{PlayStop}
use Rattle.wire_play.specs.declared.playing.PlayStop.TheVariants.{Failed, OutOfMemory}
use Rattle.wire_play.specs.Scripts.{TextUpTo}

-- the line of a script at fault in the line of this number
abbrev pub script_line : ℕ → List ℕ
script_line line = fault_line 15 (codes "Script") line

-- the last line, if a line of the script is at fault
abbrev pub last_of : Option ℕ → Option (List ℕ)
last_of None = None
last_of (Some line) = Some (script_line line)

-- What `play` writes for a script, and whether it ends with a fault line: the text of the lines up
-- to one at fault, and then the line of that.
abbrev pub ScriptText : List ℕ → List ℕ → Bool → Type 0
ScriptText script text fault =
    (texts : List ℕ) × (line : Option ℕ) × TextUpTo script texts line
    × (text ≡ texts ++ or_nothing (last_of line)) × (fault ≡ is_there (last_of line))

-- the run ends so where the play stopped so
abbrev pub end_of_stop : PlayStop → RunEnd
end_of_stop Failed = run.InOut
end_of_stop OutOfMemory = run.OutOfMemory
