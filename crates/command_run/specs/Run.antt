-- How a run of an engine ends.
use Rattle.std.specs.Prelude.{◌≡◌, ◌⊎◌, ℤ, Bool, true, false, Option, None}
use Rattle.std.specs.declared.io.ErrorKind.{ErrorKind}
use Rattle.std.specs.declared.io.ErrorKind.TheVariants.{OutOfMemory}
use Rattle.command_run.specs.declared.run.RunEnd.{RunEnd}
use Rattle.command_run.specs.declared.run.RunEnd.TheVariants.{Good, Fault, Unread, InOut}
use Rattle.command_run.specs.declared.run.RunEnd.TheVariants as run

-- the run wrote its whole text
abbrev pub is_done : RunEnd → Bool
is_done Good = true
is_done Fault = true
is_done _ = false

-- the run wrote the whole text of an input that has a fault
abbrev pub is_fault : RunEnd → Bool
is_fault Fault = true
is_fault _ = false

-- an error of this kind ends a run so: it is out of memory where the system gave no code
abbrev pub end_of_error : ErrorKind → Option ℤ → RunEnd
end_of_error OutOfMemory None = run.OutOfMemory
end_of_error kind code = InOut

-- an error of this kind ends a run so whose reader has it
abbrev pub end_of_reading : ErrorKind → Option ℤ → RunEnd
end_of_reading OutOfMemory None = run.OutOfMemory
end_of_reading kind code = Unread

-- the run couldn't read on
abbrev pub IsCutShort : RunEnd → Type 0
IsCutShort end = (end ≡ Unread) ⊎ (end ≡ run.OutOfMemory)
