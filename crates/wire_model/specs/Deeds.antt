-- What happened at both ends, in one order, and the run that the owners have in common.
use Rattle.std.specs.Prelude.{◌≡◌, ℕ, suc, ◌≤◌, ◌==◌, if◌then◌else◌, Some, List, [], ◌∷◌, ◌++◌}
use Rattle.std.specs.Prelude.{length, map, slice_get}
use Rattle.wire_peer.specs.{Does, Stops, new_server}
use Rattle.wire_model.specs.Conns.{Record}
use Rattle.wire_model.specs.Channels.{Pair, System, Trace, no_pairs, pair_at}
use Rattle.wire_model.specs.Owners.{Answers, Calls, ClientAct, ClientEnd, Collects, EndsDown}
use Rattle.wire_model.specs.Owners.{EndsUp, Made, SendsDown, SendsUp, ServerAct, ServerEnds}
use Rattle.wire_model.specs.Owners.{ServersDo, TakesDown, TakesUp, server_at}

-- ---- both

-- what was done at an end of connection c: at its client, or at its server
pub data Deed : Type 0 where
  AtClient : (c : ℕ) → (act : ClientAct) → Deed
  AtServer : (c : ℕ) → (act : ServerAct) → Deed

-- the deeds at servers, one after another, lead from the old servers to the new ones
abbrev pub ServersRun : {H : Type 0} → Does H → Stops H → ServerEnds H → List Deed → ServerEnds H
    → Type 0
ServersRun does stops old [] new = new ≡ old
ServersRun does stops old (AtClient c act ∷ deeds) new = ServersRun does stops old deeds new
ServersRun {H} does stops old (AtServer c act ∷ deeds) new = (mid : ServerEnds H)
    × ServersDo does stops c act old mid × ServersRun does stops mid deeds new

-- these acts of the owner of the servers, with the server of this connection
abbrev pub at_server : ℕ → List ServerAct → List Deed
at_server c acts = map (AtServer c) acts

-- ---- servers that are made as connections come

-- the next server is made, or a deed is done
pub data Turn : Type 0 where
  Opens : Turn
  Is : (deed : Deed) → Turn

-- the deeds among the turns
abbrev pub deeds_of : List Turn → List Deed
deeds_of [] = []
deeds_of (Opens ∷ turns) = deeds_of turns
deeds_of (Is deed ∷ turns) = deed ∷ deeds_of turns

-- how many servers are made in these turns
abbrev pub opened_in : List Turn → ℕ
opened_in [] = 0
opened_in (Opens ∷ turns) = suc (opened_in turns)
opened_in (Is deed ∷ turns) = opened_in turns

-- the servers, and one more before its first request
abbrev pub opened : {H : Type 0} → (limit : ℕ) → (ℕ → Made) → ServerEnds H → ServerEnds H
opened limit made old = record {
  servers = old.servers ++ new_server (suc (length old.servers))
      (made (suc (length old.servers))).server_window limit ∷ [];
  log = old.log;
  handler = old.handler;
}

-- the turns of an owner who makes its servers one after another lead from the old ones to the new
-- ones
abbrev pub ServersGrow : {H : Type 0} → Does H → Stops H → (limit : ℕ) → (ℕ → Made) → ServerEnds H
    → List Turn → ServerEnds H → Type 0
ServersGrow does stops limit made old [] new = new ≡ old
ServersGrow does stops limit made old (Opens ∷ turns) new =
    ServersGrow does stops limit made (opened limit made old) turns new
ServersGrow does stops limit made old (Is (AtClient c act) ∷ turns) new =
    ServersGrow does stops limit made old turns new
ServersGrow {H} does stops limit made old (Is (AtServer c act) ∷ turns) new =
    (mid : ServerEnds H) × ServersDo does stops c act old mid
    × ServersGrow does stops limit made mid turns new

-- the turns without what was done at the clients
abbrev pub server_turns : List Turn → List Turn
server_turns [] = []
server_turns (Opens ∷ turns) = Opens ∷ server_turns turns
server_turns (Is (AtClient c act) ∷ turns) = server_turns turns
server_turns (Is (AtServer c act) ∷ turns) = Is (AtServer c act) ∷ server_turns turns

-- the next server is made, and these acts are done with it, whose number this is
abbrev pub served_turns : ℕ → List ServerAct → List Turn
served_turns c acts = Opens ∷ map Is (at_server c acts)

-- ---- what was done at each end

-- the acts at the client of connection c, in order
abbrev pub acts_at : ℕ → List Deed → List ClientAct
acts_at c [] = []
acts_at c (AtClient d act ∷ deeds) = if d == c then act ∷ acts_at c deeds else acts_at c deeds
acts_at c (AtServer d act ∷ deeds) = acts_at c deeds

-- the acts at the server of connection c, in order
abbrev pub server_acts_at : ℕ → List Deed → List ServerAct
server_acts_at c [] = []
server_acts_at c (AtClient d act ∷ deeds) = server_acts_at c deeds
server_acts_at c (AtServer d act ∷ deeds) =
    if d == c then act ∷ server_acts_at c deeds else server_acts_at c deeds

-- these bytes for connection c, and the same as before for the others
abbrev pub at_one : (ℕ → List ℕ) → ℕ → List ℕ → ℕ → List ℕ
at_one f c bytes d = if d == c then bytes else f d

-- Bytes arrive in order: what an end takes in these deeds are the first bytes in flight to it. Up
-- and down are the bytes in flight before the deeds, for each connection; what is sent joins them.
abbrev pub Arrive : (up down : ℕ → List ℕ) → List Deed → Type 0
Arrive up down [] = Unit {0}
Arrive up down (AtClient c (Calls kind payload number) ∷ deeds) = Arrive up down deeds
Arrive up down (AtClient c (SendsUp bytes) ∷ deeds) =
    Arrive (at_one up c (up c ++ bytes)) down deeds
Arrive up down (AtClient c (TakesDown bytes) ∷ deeds) =
    (rest : List ℕ) × (down c ≡ bytes ++ rest) × Arrive up (at_one down c rest) deeds
Arrive up down (AtClient c (Collects reply m) ∷ deeds) = Arrive up down deeds
Arrive up down (AtClient c EndsDown ∷ deeds) = Arrive up down deeds
Arrive up down (AtServer c (TakesUp bytes) ∷ deeds) =
    (rest : List ℕ) × (up c ≡ bytes ++ rest) × Arrive (at_one up c rest) down deeds
Arrive up down (AtServer c (Answers i result) ∷ deeds) = Arrive up down deeds
Arrive up down (AtServer c (SendsDown bytes) ∷ deeds) =
    Arrive up (at_one down c (down c ++ bytes)) deeds
Arrive up down (AtServer c EndsUp ∷ deeds) = Arrive up down deeds

-- ---- what comes of it

-- The system has these ends, exactly the records that the owners of the clients have, each at an
-- index of its own, and the log of the servers.
pub record AreOf {H : Type 0} (k : ℕ) (ends : ℕ → ClientEnd) (servers : ServerEnds H) (s : System H)
    : Type 0 where
  pub pair : (c : ℕ) → 1 ≤ c → c ≤ k → (p : Pair) × (pair_at s.pairs c ≡ Some p)
  pub client : (c : ℕ) (p : Pair) → pair_at s.pairs c ≡ Some p → ((ends c).client ≡ p.client)
      × (server_at servers.servers c ≡ Some p.server)
  pub records : (c : ℕ) (p : Pair) → pair_at s.pairs c ≡ Some p → (n : ℕ) (x : Record)
      → slice_get (ends c).records n ≡ Some x
      → (i : ℕ) × (slice_get p.calls n ≡ Some i) × (slice_get s.calls i ≡ Some x)
      × (x.connection ≡ c)
  pub once : (c : ℕ) (p : Pair) → pair_at s.pairs c ≡ Some p → (n n' i : ℕ)
      → slice_get p.calls n ≡ Some i → slice_get p.calls n' ≡ Some i → n ≡ n'
  pub no_other : (i : ℕ) (x : Record) → slice_get s.calls i ≡ Some x → (p : Pair) × (n : ℕ)
      × (1 ≤ x.connection) × (x.connection ≤ k) × (pair_at s.pairs x.connection ≡ Some p)
      × (slice_get p.calls n ≡ Some i) × (slice_get (ends x.connection).records n ≡ Some x)
  pub log : s.log ≡ servers.log

-- the owners of the ends have one run of a system in common
pub record Common {H : Type 0} (does : Does H) (stops : Stops H) (limit k : ℕ) (first : H)
    (ends : ℕ → ClientEnd) (servers : ServerEnds H) : Type 0 where
  pub s : System H
  pub trace : Trace does stops limit (no_pairs first) s
  pub of : AreOf k ends servers s
