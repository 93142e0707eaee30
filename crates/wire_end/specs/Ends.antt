-- A client's end, and what is done with it.
use Rattle.std.specs.Prelude.{◌≡◌, ◌≢◌, ◌⊎◌, ℕ, Option, List, [], ◌∷◌, ◌++◌, map, None, Result, Ok}
use Rattle.std.specs.Prelude.{Err}
use Rattle.std.specs.Io.KnownBytes.{Appends}
use Rattle.bson_elem.specs.{IsBytes}
use Rattle.wire_msg.specs.{Message}
use Rattle.wire_peer.specs.{ClientSeen, MayTake, new_client}
use Rattle.wire_peer.specs.declared.client_state.ClientCause.{ClientCause}
use Rattle.wire_peer.specs.declared.client_state.ClientCause.TheVariants as causes
use Rattle.wire_peer.specs.declared.client_state.ClientState.TheVariants.{Closed, Open}
use Rattle.wire_model.specs.{ClientAct, ClientEnd, ClientRun, Made, bytes_sent, bytes_taken}
use Rattle.wire_model.specs.Owners.{Collects, EndsDown, TakesDown}
use Rattle.wire_stream.specs.{Rose}
use Rattle.wire_end.specs.declared.next.EndFault.{EndFault}
use Rattle.wire_end.specs.declared.next.EndFault.TheVariants as faults
use Rattle.wire_end.specs.declared.next.Next.{Next}
use Rattle.wire_end.specs.declared.next.Next.TheVariants.{Later, Reply}

-- The number of the connection; the client, and the records of its calls by their numbers; the
-- link; and the bytes that came over it and that the client hasn't taken yet.
pub record EndSeen (L : Type 0) : Type 0 where
  pub connection : ℕ
  pub own : ClientEnd
  pub link : L
  pub inlet : List ℕ

-- an end over which nothing was done
abbrev pub new_end : {L : Type 0} → ℕ → ClientSeen → L → EndSeen L
new_end connection client link = record {
  connection = connection;
  own = record { client = client; records = [] };
  link = link;
  inlet = [];
}

-- the end of the client of this connection, as it is made
abbrev pub first_client : {L : Type 0} → (limit : ℕ) → (ℕ → Made) → ℕ → L → EndSeen L
first_client limit made c link =
    new_end c (new_client (made c).first_id (made c).client_window limit) link

-- The end did these acts. They are a run of its client and records; the link sent the bytes that
-- they sent; and what came over the link, behind the bytes that were held, are those that they took
-- and those that are held now.
pub record EndRuns {L : Type 0} (sent received : L → Option (List ℕ)) (old : EndSeen L)
    (acts : List ClientAct) (new : EndSeen L) : Type 0 where
  pub connection : new.connection ≡ old.connection
  pub run : ClientRun old.connection old.own acts new.own
  pub sends : Appends (sent old.link) (sent new.link) (bytes_sent acts)
  pub came : List ℕ
  pub receives : Appends (received old.link) (received new.link) came
  pub taken : old.inlet ++ came ≡ bytes_taken acts ++ new.inlet
  pub are_bytes : IsBytes (bytes_taken acts)

-- the client takes bytes, and none is there
abbrev pub IsWaiting : {L : Type 0} → EndSeen L → Type 0
IsWaiting e = MayTake e.own.client × (e.inlet ≡ [])

-- ---- the next reply

-- An end that waited for a reply took pieces of bytes. Behind them it handed out the reply that the
-- call returned; or it told the client the end, where no more replies come; or nothing more was
-- done.
abbrev pub HandsOut : Result Next EndFault → List ClientAct → Type 0
HandsOut (Ok (Reply reply)) acts =
    (m : Message) × (pieces : List (List ℕ))
    × (acts ≡ map TakesDown pieces ++ Collects reply m ∷ [])
HandsOut (Ok Later) acts = (pieces : List (List ℕ)) × (acts ≡ map TakesDown pieces)
HandsOut (Err (faults.Closed cause)) acts =
    (pieces : List (List ℕ)) × (acts ≡ map TakesDown pieces ++ EndsDown ∷ [])
HandsOut (Err (faults.Link fault)) acts = (pieces : List (List ℕ)) × (acts ≡ map TakesDown pieces)
HandsOut (Err faults.OutOfMemory) acts = (pieces : List (List ℕ)) × (acts ≡ map TakesDown pieces)

-- Where no reply was there yet, the client takes more bytes and none is held; and where none comes
-- any more, it is closed, with this cause. Where memory ran out, it takes more bytes, or a reply is
-- there still.
abbrev pub StandsAs : {L : Type 0} → Result Next EndFault → EndSeen L → Type 0
StandsAs (Ok (Reply reply)) new = Unit {0}
StandsAs (Ok Later) new = IsWaiting new
StandsAs (Err (faults.Closed cause)) new = new.own.client.state ≡ Closed cause
StandsAs (Err (faults.Link fault)) new = Unit {0}
StandsAs (Err faults.OutOfMemory) new =
    MayTake new.own.client ⊎ (new.own.client.reply ≢ None)

-- The client closed for this cause. The link told its end, and no bytes are held; or what came is
-- no reply to a call.
abbrev pub Closes : {L : Type 0} → (ends : L → ℕ) → ClientCause → EndSeen L → EndSeen L → Type 0
Closes ends causes.Ended old new = (new.inlet ≡ []) × Rose (ends old.link) (ends new.link)
Closes ends causes.EndedInside old new = (new.inlet ≡ []) × Rose (ends old.link) (ends new.link)
Closes ends cause old new = ends new.link ≡ ends old.link

-- The count of ends rose if the client, which was open, was told the end of the link, and no bytes
-- are held then. Otherwise it stayed the same.
abbrev pub NextEnds : {L : Type 0} → (ends : L → ℕ) → Result Next EndFault → EndSeen L → EndSeen L
    → Type 0
NextEnds ends (Ok next) old new = ends new.link ≡ ends old.link
NextEnds ends (Err (faults.Closed cause)) old new =
    ((old.own.client.state ≡ Closed cause) × (ends new.link ≡ ends old.link))
    ⊎ ((old.own.client.state ≡ Open) × Closes ends cause old new)
NextEnds ends (Err (faults.Link fault)) old new = ends new.link ≡ ends old.link
NextEnds ends (Err faults.OutOfMemory) old new = ends new.link ≡ ends old.link

-- the count of waits rose if no reply was there yet, and otherwise stayed the same
abbrev pub NextLater : Result Next EndFault → ℕ → ℕ → Type 0
NextLater (Ok Later) old new = Rose old new
NextLater (Ok (Reply reply)) old new = new ≡ old
NextLater (Err fault) old new = new ≡ old

-- the count of failures rose if the link failed, and otherwise stayed the same
abbrev pub FailsAs : {T : Type 0} → Result T EndFault → ℕ → ℕ → Type 0
FailsAs (Err (faults.Link fault)) old new = Rose old new
FailsAs (Err (faults.Closed cause)) old new = new ≡ old
FailsAs (Err faults.OutOfMemory) old new = new ≡ old
FailsAs (Ok value) old new = new ≡ old
