-- The steps that an end is made of.
use Rattle.std.specs.Prelude.{◌≡◌, ℕ, ◌+◌, ◌<◌, Option, None, Some, List, []}
use Rattle.std.specs.Prelude.{◌∷◌, ◌++◌, length, map, Result, Ok, Err}
use Rattle.std.specs.Io.KnownBytes.{Appends}
use Rattle.bson_elem.specs.{IsBytes}
use Rattle.wire_msg.specs.{Message}
use Rattle.wire_model.specs.{ClientTakes}
use Rattle.wire_peer.specs.{ClientSeen, MayTake}
use Rattle.wire_peer.specs.declared.call_table.ReadyReply.{ReadyReply}
use Rattle.wire_model.specs.Owners.{Collects, TakesDown}
use Rattle.wire_stream.specs.{Rose}
use Rattle.wire_stream.specs.declared.inlet.Pulled.{Pulled}
use Rattle.wire_stream.specs.declared.inlet.Pulled.TheVariants as pulls
use Rattle.wire_end.specs.declared.next.EndFault.{EndFault}
use Rattle.wire_end.specs.declared.next.EndFault.TheVariants as faults
use Rattle.wire_end.specs.Ends.{EndRuns, EndSeen}

-- the end took pieces of bytes, and did nothing else
abbrev pub Hears : {L : Type 0} → (sent received : L → Option (List ℕ)) → EndSeen L → EndSeen L
    → Type 0
Hears sent received old new =
    (pieces : List (List ℕ)) × EndRuns sent received old (map TakesDown pieces) new

-- Where the client still takes bytes, it holds more of a message than before, within its limit or a
-- header.
abbrev pub HoldsMore : ClientSeen → ClientSeen → Type 0
HoldsMore old new = MayTake new → (length old.held < length new.held)
    × (length new.held < 16 + new.requests.limit) × (new.requests.limit ≡ old.requests.limit)

-- The bytes that the end holds, of a message and behind it, are those that it held, and what came.
pub record Grows {L : Type 0} (received : L → Option (List ℕ)) (old new : EndSeen L) : Type 0 where
  pub came : List ℕ
  pub receives : Appends (received old.link) (received new.link) came
  pub held : new.own.client.held ++ new.inlet ≡ (old.own.client.held ++ old.inlet) ++ came
  pub limit : new.own.client.requests.limit ≡ old.own.client.requests.limit

-- the client took the first of the bytes that were there
pub record IsFed (old : ClientSeen) (there : List ℕ) (new : ClientSeen) (left : List ℕ) :
    Type 0 where
  pub bytes : List ℕ
  pub takes : ClientTakes old bytes new
  pub parts : there ≡ bytes ++ left
  pub are_bytes : IsBytes bytes
  pub more : HoldsMore old new
  pub held : MayTake new → new.held ≡ old.held ++ bytes

-- the reply that was ready is handed out, or none was
abbrev pub CollectsAs : {L : Type 0} → (sent received : L → Option (List ℕ)) → Option ReadyReply
    → EndSeen L
    → EndSeen L → Type 0
CollectsAs sent received None old new = (new ≡ old) × (old.own.client.reply ≡ None)
CollectsAs sent received (Some reply) old new =
    (m : Message) × EndRuns sent received old (Collects reply m ∷ []) new

-- the count of waits rose if no more bytes came, and otherwise stayed the same
abbrev pub StepLater : Result Pulled EndFault → ℕ → ℕ → Type 0
StepLater (Ok pulls.Later) old new = Rose old new
StepLater (Ok pulls.Bytes) old new = new ≡ old
StepLater (Ok pulls.End) old new = new ≡ old
StepLater (Err fault) old new = new ≡ old

-- the count of ends rose if the link told its end, and otherwise stayed the same
abbrev pub StepEnds : Result Pulled EndFault → ℕ → ℕ → Type 0
StepEnds (Ok pulls.End) old new = Rose old new
StepEnds (Ok pulls.Bytes) old new = new ≡ old
StepEnds (Ok pulls.Later) old new = new ≡ old
StepEnds (Err fault) old new = new ≡ old

-- the link failed or memory ran out, and the client isn't closed by that
abbrev pub ClosesNothing : EndFault → Type 0
ClosesNothing (faults.Link fault) = Unit {0}
ClosesNothing (faults.Closed cause) = ⊥
ClosesNothing faults.OutOfMemory = Unit {0}
