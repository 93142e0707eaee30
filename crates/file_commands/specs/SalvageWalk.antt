-- How a damaged input is gone over, piece by piece.
use Rattle.std.specs.Prelude.{◌≡◌, ℕ, List, ◌++◌, Bool, true, false, Option}
use Rattle.std.specs.Io.KnownBytes.{Appends, Consumes, IsAtEnd}
use Rattle.bson_stream.specs.{IsSettled, MayFollow, Part, Salvaging, SoFar}
use Rattle.command_run.specs.declared.run.RunEnd.{RunEnd}
use Rattle.command_run.specs.declared.run.RunEnd.TheVariants.{Good, Fault, Unread, InOut}
use Rattle.command_run.specs.declared.run.RunEnd.TheVariants as run
use Rattle.file_commands.specs.Documents.{TextRule}
use Rattle.file_commands.specs.Salvaged.{ArePartTexts, FirstSalvaged, SalvageText, SalvagedSoFar}

-- how a command salvages: by this rule, with the lines of gaps or without, within this limit
pub record Manner : Type 1 where
  pub rule : TextRule
  pub lines : Bool
  pub limit : ℕ

abbrev pub manner : TextRule → Bool → ℕ → Manner
manner rule lines limit = record { rule = rule; lines = lines; limit = limit }

-- These bytes came, and the texts of the parts that were told of them were written, since the
-- output was `start`. Whether something is at fault in them is known.
pub record Wrote (m : Manner) (ended : Bool) (bytes : List ℕ) (s : Salvaging) (fault : Bool)
    (start now : Option (List ℕ)) : Type 0 where
  pub told : List Part
  pub texts : List ℕ
  pub so_far : SoFar ended bytes told s
  pub limit_is : s.limit ≡ m.limit
  pub texts_are : ArePartTexts m.rule m.lines told texts fault
  pub appends : Appends start now texts

-- Texts of the first few parts were written, whatever follows the bytes.
abbrev pub WroteFirst : Manner → Bool → List ℕ → Option (List ℕ) → Option (List ℕ) → Type 0
WroteFirst m ended bytes start now =
    (texts : List ℕ) × Appends start now texts
    × ((more : List ℕ) → MayFollow ended more
    → FirstSalvaged m.rule m.lines m.limit (bytes ++ more) texts)

-- The texts of all parts that can be told were written; or memory ran out, and those of the first
-- few were.
abbrev pub Passed : Manner → Bool → List ℕ → Salvaging → Bool → Bool → Option (List ℕ)
    → Option (List ℕ) → Type 0
Passed m ended bytes s fault true start now =
    Wrote m ended bytes s fault start now × IsSettled ended s
Passed m ended bytes s fault false start now = WroteFirst m ended bytes start now

-- how a run ends whose input ended
abbrev pub end_of_parts : Bool → Bool → RunEnd
end_of_parts false fault = run.OutOfMemory
end_of_parts true false = Good
end_of_parts true true = Fault

-- what was written of an input of which these bytes were read, where a run ends so
abbrev pub IsSalvageEnd : Manner → Option (List ℕ) → List ℕ → List ℕ → RunEnd → Type 0
IsSalvageEnd m to read texts Good =
    IsAtEnd to × SalvageText m.rule m.lines m.limit read texts false
IsSalvageEnd m to read texts Fault =
    IsAtEnd to × SalvageText m.rule m.lines m.limit read texts true
IsSalvageEnd m to read texts Unread = SalvagedSoFar m.rule m.lines m.limit read texts
IsSalvageEnd m to read texts run.OutOfMemory =
    (ended : Bool) × (ended ≡ true → IsAtEnd to)
    × ((more : List ℕ) → MayFollow ended more
    → FirstSalvaged m.rule m.lines m.limit (read ++ more) texts)
IsSalvageEnd m to read texts InOut = ⊥

-- Bytes were read, texts were written for them, and the run ends so.
abbrev pub SalvageEnds : Manner → RunEnd → Option (List ℕ) → Option (List ℕ) → Option (List ℕ)
    → Option (List ℕ) → Type 0
SalvageEnds m end from to old new =
    (read : List ℕ) × (texts : List ℕ) × Consumes from to read × Appends old new texts
    × IsSalvageEnd m to read texts end
