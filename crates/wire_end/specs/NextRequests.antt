-- The next request of a server's end.
use Rattle.std.specs.Prelude.{◌≡◌, ℕ, ◌<◌, ◌≤◌, ◌⊎◌, List, [], ◌∷◌, ◌++◌, length, Result}
use Rattle.std.specs.Prelude.{Ok, Err}
use Rattle.bson_elem.specs.{IsBytes}
use Rattle.wire_msg.specs.{IsBad, IsGoodHeader, IsMessage, IsOpen, header_of}
use Rattle.wire_peer.specs.{ServerView, end_cause}
use Rattle.wire_peer.specs.declared.server_state.ServerCause.{ServerCause}
use Rattle.wire_peer.specs.declared.server_state.ServerCause.TheVariants.{Message}
use Rattle.wire_peer.specs.declared.server_state.ServerState.TheVariants.{Closed, Open}
use Rattle.wire_stream.specs.{Rose}
use Rattle.wire_end.specs.declared.next.NextRequest.{NextRequest}
use Rattle.wire_end.specs.declared.next.NextRequest.TheVariants.{Full, Later, Waits}
use Rattle.wire_end.specs.declared.next.RequestFault.{RequestFault}
use Rattle.wire_end.specs.declared.next.RequestFault.TheVariants as faults
use Rattle.wire_end.specs.ServerEnds.{ServerEndSeen}

-- the server takes bytes: it is open, and one more request may wait
abbrev pub TakesMore : ServerView → Type 0
TakesMore s = (s.state ≡ Open) × (length s.waiting < s.window)

-- the bytes begin with a good header
abbrev pub HasGoodHeader : ℕ → List ℕ → Type 0
HasGoodHeader limit bytes = (16 ≤ length bytes) × IsGoodHeader limit (header_of bytes)

-- ---- what comes of waiting

-- The server closed for this cause over these bytes of a message: they are no message, or the link
-- told its end between messages or inside one.
abbrev pub Closes : {L : Type 0} → (ends : L → ℕ) → ServerCause → List ℕ → ServerEndSeen L
    → ServerEndSeen L → Type 0
Closes ends (Message fault) bytes old new =
    IsBad old.server.limit bytes fault × IsBytes new.inlet
    × (new.server ≡ record (old.server) { held = bytes; state = Closed (Message fault) })
    × (ends new.link ≡ ends old.link)
Closes ends cause bytes old new =
    IsOpen old.server.limit bytes × (cause ≡ end_cause bytes) × (new.inlet ≡ [])
    × (new.server ≡ record (old.server) { held = bytes; state = Closed cause })
    × Rose (ends old.link) (ends new.link)

-- The server holds these bytes of a message that isn't whole, and is as before else.
pub record StillHolds {L : Type 0} (ends : L → ℕ) (bytes : List ℕ) (old new : ServerEndSeen L)
    : Type 0 where
  pub takes : TakesMore old.server
  pub is_open : IsOpen old.server.limit bytes
  pub same : new.server ≡ record (old.server) { held = bytes }
  pub told : ends new.link ≡ ends old.link

-- What came of waiting for one more request, by the bytes of the next message that the server held
-- or took. They are a request, which waits behind the others; or the message isn't whole, and the
-- link has no more bytes now; or nothing is taken, since as many wait as may. Or no request comes:
-- the link failed; the server is closed, or was it before; or memory ran out for a message whose
-- good header came.
abbrev pub RequestComes : {L : Type 0} → (ends : L → ℕ) → Result NextRequest RequestFault → List ℕ
    → ServerEndSeen L → ServerEndSeen L → Type 0
RequestComes ends (Ok Waits) bytes old new =
    TakesMore old.server × IsMessage old.server.limit bytes
    × (new.server
    ≡ record (old.server) { held = []; waiting = old.server.waiting ++ bytes ∷ [] })
    × (ends new.link ≡ ends old.link)
RequestComes ends (Ok Later) bytes old new = StillHolds ends bytes old new × (new.inlet ≡ [])
RequestComes ends (Ok Full) bytes old new =
    (old.server.state ≡ Open) × (old.server.window ≤ length old.server.waiting) × (new ≡ old)
RequestComes ends (Err (faults.Link fault)) bytes old new = StillHolds ends bytes old new
RequestComes ends (Err faults.OutOfMemory) bytes old new =
    StillHolds ends bytes old new × HasGoodHeader old.server.limit (bytes ++ new.inlet)
RequestComes ends (Err (faults.Closed cause)) bytes old new =
    ((old.server.state ≡ Closed cause) × (new ≡ old))
    ⊎ (TakesMore old.server × Closes ends cause bytes old new)

-- the count of waits rose if no more bytes come now, and otherwise stayed the same
abbrev pub RequestLater : Result NextRequest RequestFault → ℕ → ℕ → Type 0
RequestLater (Ok Later) old new = Rose old new
RequestLater (Ok Waits) old new = new ≡ old
RequestLater (Ok Full) old new = new ≡ old
RequestLater (Err fault) old new = new ≡ old

-- the count of failures rose if the link failed, and otherwise stayed the same
abbrev pub RequestFails : Result NextRequest RequestFault → ℕ → ℕ → Type 0
RequestFails (Err (faults.Link fault)) old new = Rose old new
RequestFails (Err (faults.Closed cause)) old new = new ≡ old
RequestFails (Err faults.OutOfMemory) old new = new ≡ old
RequestFails (Ok next) old new = new ≡ old
