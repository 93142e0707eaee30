-- The connections of a record, each over one of its own to the server.
use Rattle.std.specs.Prelude.{◌≡◌, ◌++◌, ◌==◌, ℕ, Bool, List, [], ◌∷◌, Option, false, is_some}
use Rattle.std.specs.Prelude.{Some, length, not, option_map, position, slice_get, slice_set}
use Rattle.std.specs.Prelude.{unwrap_or}
use Rattle.replay.specs.Gives.{GivesOver}
use Rattle.replay.specs.Matchings.{first_due, seen}
use Rattle.replay.specs.Paces.{least}
use Rattle.replay.specs.declared.conn.Conn.{Conn}

-- the index of the first connection of this number, or how many there are if there is none
abbrev pub place_of : {L : Type 0} → ℕ → List (Conn L) → ℕ
place_of number conns = unwrap_or (position (λ c. c.number == number) conns) (length conns)

-- whether recorded answers are awaited on a connection, and whether something is left to be sent
abbrev pub awaits : {L : Type 0} → Conn L → Bool
awaits c = not (length (seen c.dialog.matching).awaited == 0)

abbrev pub waits : {L : Type 0} → Conn L → Bool
waits c = is_some c.stall

-- the first moment up to which an answer is awaited on a connection, or bytes have to be sent
abbrev pub conn_due : {L : Type 0} → Conn L → Option ℕ
conn_due c =
    least (first_due (seen c.dialog.matching).awaited) (option_map (λ stall. stall.due) c.stall)

-- the first one of this moment and those of the connections
abbrev pub least_from : {L : Type 0} → Option ℕ → List (Conn L) → Option ℕ
least_from first [] = first
least_from first (c ∷ cs) = least_from (least first (conn_due c)) cs

-- whether there is a connection at this index that is to take another turn at once
abbrev pub has_more_at : {L : Type 0} → ℕ → List (Conn L) → Bool
has_more_at i conns = unwrap_or (option_map (λ c. c.has_more) (slice_get conns i)) false

-- A connection of this number was added, behind all others.
abbrev pub AddsConn : {L : Type 0} → ℕ → (old new : List (Conn L)) → Type 0
AddsConn {L} number old new = (c : Conn L) × (c.number ≡ number) × (new ≡ old ++ c ∷ [])

-- Only the connection at this index changed, and it was given these bytes, as long as it stands.
abbrev pub GivesAt : {L : Type 0} → (L → Option (List ℕ)) → ℕ → List ℕ → (old new : List (Conn L))
    → Type 0
GivesAt {L} sent i bytes old new =
    (c : Conn L) → slice_get old i ≡ Some c → (d : Conn L) × (new ≡ slice_set old i d)
    × (d.number ≡ c.number)
    × GivesOver (λ x. sent x.link) (λ x. x.waiting) c.channel d.channel bytes
