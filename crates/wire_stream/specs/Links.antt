-- What the calls of a link do to what it shows.
use Rattle.std.specs.Prelude.{◌≡◌, ℕ, zero, suc, ◌+◌, ◌-◌, ◌^◌, min, List, ◌++◌, Option, Some, None}
use Rattle.std.specs.Prelude.{Result, Ok, Err}
use Rattle.wire_stream.specs.declared.link.LinkFault.{LinkFault}
use Rattle.wire_stream.specs.declared.link.Moved.{Moved}
use Rattle.wire_stream.specs.declared.link.Moved.TheVariants.{Bytes, Later}

-- how many bytes were moved: none if none can be moved now
abbrev pub bytes_moved : Moved → ℕ
bytes_moved (Bytes n) = n
bytes_moved Later = 0

-- the count of bytes that the call moved, or nothing if it failed or none can be moved now
abbrev pub count_of : Result Moved LinkFault → Result ℕ (Unit {0})
count_of (Ok (Bytes n)) = Ok n
count_of (Ok Later) = Err tt
count_of (Err fault) = Err tt

-- the count rose by one, or was at its greatest value already
abbrev pub Rose : ℕ → ℕ → Type 0
Rose old new = new ≡ min (old + 1) (2 ^ 64 - 1)

-- A `recv` with room for this many bytes had this result. The count of ends rose if there was room
-- and it gave 0 bytes, and otherwise stayed the same.
abbrev pub TellsEnd : ℕ → Result Moved LinkFault → ℕ → ℕ → Type 0
TellsEnd (suc room) (Ok (Bytes zero)) old new = Rose old new
TellsEnd room result old new = new ≡ old

-- The count of waits rose if the call returned `Later`, and otherwise stayed the same.
abbrev pub TellsLater : Result Moved LinkFault → ℕ → ℕ → Type 0
TellsLater (Ok Later) old new = Rose old new
TellsLater result old new = new ≡ old

-- what had been received and sent before a call of `recv`, if the link shows it
pub record Turn : Type 0 where
  pub received : Option (List ℕ)
  pub sent : Option (List ℕ)

-- If the link shows its turns, these were added to them.
abbrev pub AddsTurns : Option (List Turn) → Option (List Turn) → List Turn → Type 0
AddsTurns None new more = Unit {0}
AddsTurns (Some old) None more = ⊥
AddsTurns (Some old) (Some new) more = new ≡ old ++ more
