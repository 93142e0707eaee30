-- What a gate before a link lets through.
use Rattle.std.specs.Prelude.{◌≡◌, ℕ, zero, suc, ◌-◌, ◌≤◌, min, List, length, take}
use Rattle.std.specs.Prelude.{Option, Result, Ok, Err}
use Rattle.std.specs.Io.KnownBytes.{Appends, Keeps}
use Rattle.wire_stream.specs.{bytes_moved}
use Rattle.wire_stream.specs.declared.link.LinkFault.{LinkFault}
use Rattle.wire_stream.specs.declared.link.Moved.{Moved}
use Rattle.wire_stream.specs.declared.link.Moved.TheVariants as moves
use Rattle.wire_serve.specs.declared.gated_link.Gate.{Gate}
use Rattle.wire_serve.specs.declared.gated_link.Gate.TheVariants as gates

-- the bytes that a call says it moved went over the link, or none if it failed
abbrev pub GoOver : List ℕ → Result Moved LinkFault → Option (List ℕ) → Option (List ℕ) → Type 0
GoOver bytes (Ok moved) old new = Appends old new (take (bytes_moved moved) bytes)
GoOver bytes (Err fault) old new = Keeps old new

-- how many bytes a call moved
abbrev pub count_moved : Result Moved LinkFault → ℕ
count_moved (Ok moved) = bytes_moved moved
count_moved (Err fault) = 0

-- the call failed
abbrev pub HasFailed : Result Moved LinkFault → Type 0
HasFailed (Ok moved) = ⊥
HasFailed (Err fault) = Unit {0}

-- What went over the link of bytes that were to be sent, and the gate after that. An open gate lets
-- through what the link takes. One that is cut lets through so many as are left and no more than
-- these bytes, and then the call fails. One that swallows takes all, and none goes over the link.
abbrev pub Passes : Gate → List ℕ → Result Moved LinkFault → Option (List ℕ) → Option (List ℕ)
    → Gate → Type 0
Passes gates.Open bytes result old new after = GoOver bytes result old new × (after ≡ gates.Open)
Passes (gates.Cut zero) bytes result old new after =
    HasFailed result × Keeps old new × (after ≡ gates.Cut 0)
Passes (gates.Cut (suc left)) bytes result old new after =
    GoOver bytes result old new × (count_moved result ≤ suc left)
    × (after ≡ gates.Cut (min (suc left) (length bytes) - count_moved result))
Passes gates.Swallowed bytes result old new after =
    (result ≡ Ok (moves.Bytes (length bytes))) × Keeps old new × (after ≡ gates.Swallowed)
