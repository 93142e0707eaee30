-- What the acts with connections write, and that they are those of an owner of servers.
use Rattle.std.specs.Prelude.{◌≡◌, ℕ, suc, List, [], ◌∷◌, ◌++◌, flat_map}
use Rattle.wire_peer.specs.{Does, LogEntry, Stops}
use Rattle.wire_model.specs.{Made}
use Rattle.wire_serve.specs.{AreNewConns, ConnsAct, ConnsRun, ConnsSeen, OwnsServers, SlotAct}
use Rattle.wire_serve.specs.{Tells}
use Rattle.wire_serve.specs.Connections as conns
use Rattle.wire_serve.specs.Slots as slot_acts
use Rattle.wire_serve.specs.declared.turned.Leave.{Leave}
use Rattle.server_core.specs.Transcript.{end_text, new_text, told_text}

-- These acts were done with connections, whose numbers count from 1, and this was written of them:
-- the line of each connection that is new, the entries of each turn, which are forgotten then, and
-- the line of each connection that is over after its turn, and is closed. Of what becomes of the
-- bytes that are sent nothing is written.
pub data Writes {L : Type 0} : (next : ℕ) → List (ConnsAct L) → (text : List ℕ) → Type 0 where
  nothing : Writes 1 [] []
  a_new_one : {next : ℕ} {acts : List (ConnsAct L)} {text : List ℕ} (key : ℕ) (link : L)
      → Writes next acts text
      → Writes (suc next) (acts ++ conns.Opens key link ∷ []) (text ++ new_text next)
  a_turn : {next : ℕ} {acts : List (ConnsAct L)} {text : List ℕ} (key c : ℕ)
      (done : List SlotAct) (told : List LogEntry) → Writes next acts text
      → Writes next (acts ++ conns.Acts key c done ∷ conns.Forgets told ∷ [])
      (text ++ flat_map told_text told)
  a_gate : {next : ℕ} {acts : List (ConnsAct L)} {text : List ℕ} (key c : ℕ)
      → Writes next acts text
      → Writes next (acts ++ conns.Acts key c (slot_acts.SetsGate ∷ []) ∷ []) text
  a_last_turn : {next : ℕ} {acts : List (ConnsAct L)} {text : List ℕ} (key c : ℕ)
      (done : List SlotAct) (told : List LogEntry) (leave : Leave) → Writes next acts text
      → Writes next
      (acts ++ conns.Acts key c done ∷ conns.Forgets told ∷ conns.Closes key ∷ [])
      (text ++ (flat_map told_text told ++ end_text c leave))

-- The text is the transcript of acts that began without connections and led to these. They are what
-- an owner of servers does, so the entries in it, in order, are one run of the handler, and each
-- reply that was put out is the answer to the request of its own connection.
pub record IsTranscript {H L : Type 0} (does : Does H) (stops : Stops H) (t : Tells L) (first : H)
    (now : ConnsSeen H L) (text : List ℕ) : Type 0 where
  pub begun : ConnsSeen H L
  pub fresh : AreNewConns first begun
  pub acts : List (ConnsAct L)
  pub run : ConnsRun does stops t begun acts now
  pub writes : Writes now.next acts text
  pub owns : (made : ℕ → Made) → ((c : ℕ) → (made c).server_window ≡ 1)
      → OwnsServers does stops t made first acts now
