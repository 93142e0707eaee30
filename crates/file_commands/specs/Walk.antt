-- What is told of an input that is gone over piece by piece, and what is written for it.
use Rattle.std.specs.Prelude.{ℕ, List, ◌++◌, true, false, Option, None, Some}
use Rattle.std.specs.Io.KnownBytes.{Appends, Consumes, Keeps}
use Rattle.file_commands.specs.declared.pieces.Ending.{Ending}
use Rattle.file_commands.specs.declared.pieces.Ending.TheVariants as ending
use Rattle.command_run.specs.declared.run.RunEnd.{RunEnd}
use Rattle.command_run.specs.declared.run.RunEnd.TheVariants as run
use Rattle.file_commands.specs.declared.walk.Stop.{Stop}
use Rattle.file_commands.specs.declared.walk.Stop.TheVariants as stop
use Rattle.file_commands.specs.InputFault.{input_fault_line, line_of}
use Rattle.file_commands.specs.Output.{TextOf}

-- What a command tells of bytes, and of the texts of the documents or messages in them: how a
-- reader stands that more bytes may follow; where bytes end, and their last line; where they are at
-- fault, whatever follows them, and the line of that; the texts of the first few; those of all, up
-- to the first fault; and the whole text, and whether it ends with a fault line.
pub record Tells (Reader : Type 0) : Type 1 where
  pub stands : Reader → List ℕ → List ℕ → Type 0
  pub ends : Reader → List ℕ → List ℕ → Option (List ℕ) → Type 0
  pub is_bad : Reader → List ℕ → List ℕ → List ℕ → Type 0
  pub first : List ℕ → List ℕ → Type 0
  pub all : List ℕ → List ℕ → Type 0
  pub whole : TextOf

-- whatever follows the bytes, these are the texts of the first few
abbrev pub StaysFirst : {R : Type 0} → Tells R → List ℕ → List ℕ → Type 0
StaysFirst t bytes texts = (more : List ℕ) → t.first (bytes ++ more) texts

-- These bytes were read, and these texts were written for them, all there are. More bytes may
-- follow.
pub record IsBetween {R : Type 0} (t : Tells R) (r : R) (read texts : List ℕ) : Type 0 where
  pub stands : t.stands r read texts
  pub all : t.all read texts
  pub first : StaysFirst t read texts

-- The bytes are at fault where the reader stands.
pub record IsAtFault {R : Type 0} (t : Tells R) (r : R) (bytes texts line : List ℕ) : Type 0 where
  pub ends : t.ends r bytes texts (Some line)
  pub is_bad : t.is_bad r bytes texts line
  pub all : t.all bytes texts
  pub first : StaysFirst t bytes texts

-- Why nothing more was written for these bytes: more of them decide; they are at fault, whatever
-- follows them; or memory ran out.
abbrev pub IsStop : {R : Type 0} → Tells R → R → List ℕ → List ℕ → Option Stop → Type 0
IsStop t r bytes texts None = IsBetween t r bytes texts
IsStop t r bytes texts (Some (stop.Fault f)) =
    (more : List ℕ) → IsAtFault t r (bytes ++ more) texts (input_fault_line f)
IsStop t r bytes texts (Some stop.OutOfMemory) = StaysFirst t bytes texts

-- The bytes end with a piece, for which more texts were written than these.
abbrev pub Walks : {R : Type 0} → Tells R → R → List ℕ → List ℕ → Option Stop
    → Option (List ℕ) → Option (List ℕ) → Type 0
Walks t new bytes texts stop from to =
    (more : List ℕ) × Appends from to more × IsStop t new bytes (texts ++ more) stop

-- How an input ended of which these bytes were read: all of it was read, and this is its fault;
-- reading failed; or memory ran out.
abbrev pub IsEnding : {R : Type 0} → Tells R → R → List ℕ → List ℕ → Ending → Type 0
IsEnding t r read texts (ending.Whole last) = t.ends r read texts (line_of last)
IsEnding t r read texts (ending.Cut run.Unread) = t.all read texts
IsEnding t r read texts (ending.Cut run.OutOfMemory) = StaysFirst t read texts
IsEnding t r read texts _ = ⊥

-- Bytes were read, texts were written for them, and the input ended so.
abbrev pub Ends : {R : Type 0} → Tells R → R → Ending → Option (List ℕ) → Option (List ℕ)
    → Option (List ℕ) → Option (List ℕ) → Type 0
Ends t r k from to old new =
    (read : List ℕ) × (texts : List ℕ) × Consumes from to read × Appends old new texts
    × IsEnding t r read texts k

-- What was written behind the texts of what was read, where the run ends so.
abbrev pub IsFinish : {R : Type 0} → Tells R → List ℕ → List ℕ → RunEnd → Option (List ℕ)
    → Option (List ℕ) → Type 0
IsFinish t read texts run.Good old new =
    (behind : List ℕ) × t.whole read (texts ++ behind) false × Appends old new behind
IsFinish t read texts run.Fault old new =
    (behind : List ℕ) × t.whole read (texts ++ behind) true × Appends old new behind
IsFinish t read texts run.Unread old new = t.all read texts × Keeps old new
IsFinish t read texts run.OutOfMemory old new = StaysFirst t read texts × Keeps old new
IsFinish t read texts run.InOut old new = Unit {0}
