-- The abstract machine: calls and one log. No bytes, ids, lengths or buffers.
use Rattle.std.specs.Prelude.{◌≡◌, ℕ, ◌≤◌, Bool, true, false, if◌then◌else◌, ◌==◌, Option, None}
use Rattle.std.specs.Prelude.{Some, List, [], ◌∷◌, ◌++◌, ◌⊎◌, length, map, slice_get, slice_set}
use Rattle.wire_msg.specs.{Content}
use Rattle.wire_peer.specs.{Asked, Does, LogEntry, LogStep, Stops, allows_more, are_left}
use Rattle.wire_peer.specs.{awaits_reply}
use Rattle.wire_peer.specs.declared.calls.CallKind.{CallKind}
use Rattle.wire_peer.specs.declared.handlers.HandlerStop.{HandlerStop}

-- what a call of this kind asks
abbrev pub asked_as : CallKind → Content → Asked
asked_as kind payload =
    record {
      payload = payload;
      exhaust_allowed = allows_more kind;
      more_to_come = if awaits_reply kind then false else true;
    }

-- Where a request is: on its way, waiting at the server, answered by an entry, at an entry that
-- gives no reply, or never to have an entry.
pub data Place : Type 0 where
  OnWay : Place
  Waiting : Place
  Answered : (entry : ℕ) → Place
  Mute : (entry : ℕ) → Place
  Never : Place

-- the state of a call for its caller; a stranger has no caller here
pub data State : Type 0 where
  Pending : State
  Done : State
  Sent : State
  Lost : State
  Foreign : State

-- a call, or a stranger: the request of a raw connection
pub record Call : Type 0 where
  pub connection : ℕ
  pub asked : Asked
  pub place : Place
  pub parts : List Content
  pub state : State

-- The calls and strangers, in the order in which they appeared; the log; the handler; and for each
-- connection whether it is raw, and whether its client half and its server half are alive.
pub record Machine (H : Type 0) : Type 0 where
  pub calls : List Call
  pub log : List LogEntry
  pub handler : H
  pub raw : ℕ → Bool
  pub client_lives : ℕ → Bool
  pub server_lives : ℕ → Bool

abbrev pub is_ours : State → Bool
is_ours Pending = true
is_ours Done = true
is_ours Sent = true
is_ours Lost = true
is_ours Foreign = false

abbrev pub new_call : ℕ → Asked → Call
new_call c a =
    record {
      connection = c;
      asked = a;
      place = OnWay;
      parts = [];
      state = if a.more_to_come then Sent else Pending;
    }

abbrev pub stranger : ℕ → Asked → Call
stranger c a = record { connection = c; asked = a; place = Waiting; parts = []; state = Foreign }

abbrev pub placed : Call → Place → Call
placed x p =
    record
    { connection = x.connection; asked = x.asked; place = p; parts = x.parts; state = x.state }

-- the call with one more part; with the last part it is done
abbrev pub with_part : Call → Content → Bool → Call
with_part x part more =
    record {
      connection = x.connection;
      asked = x.asked;
      place = x.place;
      parts = x.parts ++ part ∷ [];
      state = if more then x.state else Done;
    }

-- the state of a call once its client is lost: a pending call is lost with it
abbrev pub lost_state : State → State
lost_state Pending = Lost
lost_state Done = Done
lost_state Sent = Sent
lost_state Lost = Lost
lost_state Foreign = Foreign

abbrev pub lost : ℕ → Call → Call
lost c x =
    record {
      connection = x.connection;
      asked = x.asked;
      place = x.place;
      parts = x.parts;
      state = if x.connection == c then lost_state x.state else x.state;
    }

abbrev pub never_place : Place → Place
never_place OnWay = Never
never_place Waiting = Never
never_place (Answered e) = Answered e
never_place (Mute e) = Mute e
never_place Never = Never

abbrev pub never : ℕ → Call → Call
never c x =
    record {
      connection = x.connection;
      asked = x.asked;
      place = if x.connection == c then never_place x.place else x.place;
      parts = x.parts;
      state = x.state;
    }

abbrev pub all_but : (ℕ → Bool) → ℕ → ℕ → Bool
all_but f c d = if d == c then false else f d

-- ---- what each step leaves

abbrev pub with_calls : {H : Type 0} → Machine H → List Call → Machine H
with_calls m calls =
    record {
      calls = calls;
      log = m.log;
      handler = m.handler;
      raw = m.raw;
      client_lives = m.client_lives;
      server_lives = m.server_lives;
    }

abbrev pub with_new : {H : Type 0} → Machine H → Call → Machine H
with_new m x = with_calls m (m.calls ++ x ∷ [])

abbrev pub with_call : {H : Type 0} → Machine H → ℕ → Call → Machine H
with_call m i x = with_calls m (slice_set m.calls i x)

abbrev pub logged : {H : Type 0} → Machine H → ℕ → Call → LogEntry → H → Machine H
logged m i x e h =
    record {
      calls = slice_set m.calls i x;
      log = m.log ++ e ∷ [];
      handler = h;
      raw = m.raw;
      client_lives = m.client_lives;
      server_lives = m.server_lives;
    }

abbrev pub client_gone : {H : Type 0} → Machine H → ℕ → Machine H
client_gone m c =
    record {
      calls = map (lost c) m.calls;
      log = m.log;
      handler = m.handler;
      raw = m.raw;
      client_lives = all_but m.client_lives c;
      server_lives = m.server_lives;
    }

abbrev pub server_gone : {H : Type 0} → Machine H → ℕ → Machine H
server_gone m c =
    record {
      calls = map (never c) m.calls;
      log = m.log;
      handler = m.handler;
      raw = m.raw;
      client_lives = m.client_lives;
      server_lives = all_but m.server_lives c;
    }

abbrev pub entry_for : Call → Option (List Content) → LogEntry
entry_for x answers =
    record { connection = x.connection; payload = x.asked.payload; answers = answers }

-- where a request is after entry e: answered by it, or at it without a reply if it wants none
abbrev pub logged_place : Call → ℕ → Place
logged_place x e = if x.asked.more_to_come then Mute e else Answered e

-- the call of index i is x
abbrev pub CallIs : List Call → ℕ → Call → Type 0
CallIs calls i x = slice_get calls i ≡ Some x

-- the answers begin with these parts, and have more after them
abbrev pub Owes : Option (List Content) → List Content → Type 0
Owes answers parts =
    (part : Content) × (rest : List Content) × (answers ≡ Some (parts ++ part ∷ rest))

-- the call is answered by entry e, and has fewer parts than the entry has answers
pub record IsDue (log : List LogEntry) (x : Call) (e : ℕ) : Type 0 where
  pub place : x.place ≡ Answered e
  pub entry : LogEntry
  pub in_log : slice_get log e ≡ Some entry
  pub owes : Owes entry.answers x.parts

-- the entry that a request's place names
abbrev pub EntryOf : Call → ℕ → Type 0
EntryOf x e = (x.place ≡ Answered e) ⊎ (x.place ≡ Mute e)

-- ---- the steps, by what the handler may answer to a request, and where it may stop

module _ (H : Type 0) (does : Does H) (stops : Stops H) where
  pub data Step (m n : Machine H) : Type 0 where
    issue : (c : ℕ) (kind : CallKind) (payload : Content) → m.client_lives c ≡ true
        → n ≡ with_new m (new_call c (asked_as kind payload)) → Step m n
    arrive : (i : ℕ) (x : Call) → m.server_lives x.connection ≡ true → CallIs m.calls i x
        → x.place ≡ OnWay
        →
        ((j : ℕ) (y : Call) → CallIs m.calls j y → y.connection ≡ x.connection → y.place ≡ OnWay
        → i ≤ j)
        → n ≡ with_call m i (placed x Waiting) → Step m n
    answer : (i : ℕ) (x : Call) (answers : List Content) (h : H) → CallIs m.calls i x
        → x.place ≡ Waiting → LogStep does stops m.handler x.asked (Some answers) h
        → n ≡ logged m i (placed x (logged_place x (length m.log))) (entry_for x (Some answers)) h
        → Step m n
    log_lost : (i : ℕ) (x : Call) (answers : List Content) (h : H) → CallIs m.calls i x
        → x.place ≡ Waiting → x.asked.more_to_come ≡ false
        → LogStep does stops m.handler x.asked (Some answers) h
        → n
        ≡ server_gone
        (logged m i (placed x (Mute (length m.log))) (entry_for x (Some answers)) h)
        x.connection
        → Step m n
    stop : (i : ℕ) (x : Call) (why : HandlerStop) (h : H) → CallIs m.calls i x → x.place ≡ Waiting
        → stops m.handler x.asked why h
        → n
        ≡ server_gone (logged m i (placed x (Mute (length m.log))) (entry_for x None) h)
        x.connection
        → Step m n
    give_back : (i e : ℕ) (x : Call) (due : IsDue m.log x e) → m.client_lives x.connection ≡ true
        → CallIs m.calls i x
        →
        ((j e' : ℕ) (y : Call) → CallIs m.calls j y → y.connection ≡ x.connection
        → IsDue m.log y e' → e ≤ e')
        → n ≡ with_call m i (with_part x due.owes.0 (are_left due.owes.1)) → Step m n
    client_lost : (c : ℕ) → n ≡ client_gone m c → Step m n
    server_lost : (c : ℕ) → n ≡ server_gone m c → Step m n
    appear : (c : ℕ) (a : Asked) → m.raw c ≡ true → m.server_lives c ≡ true
        → n ≡ with_new m (stranger c a) → Step m n

  -- the machine goes from the first state to the second by steps
  pub data Steps (m : Machine H) : Machine H → Type 0 where
    stay : Steps m m
    go : {n o : Machine H} → Steps m n → Step n o → Steps m o

-- the machine without calls and entries; a raw connection has no client half from the start
abbrev pub empty : {H : Type 0} → H → (ℕ → Bool) → Machine H
empty h raw =
    record {
      calls = [];
      log = [];
      handler = h;
      raw = raw;
      client_lives = λ c. if raw c then false else true;
      server_lives = λ c. true;
    }
