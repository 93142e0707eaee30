-- What holds of a client alone, whoever answers it: for any calls, and any pieces of any bytes.
use Rattle.std.specs.Prelude.{◌≡◌, ◌≢◌, ℕ, ◌≤◌, ℤ, ◌⊎◌, true, ◌==◌, if◌then◌else◌, Option}
use Rattle.std.specs.Prelude.{slice_get}
use Rattle.std.specs.List.{Contains}
use Rattle.std.specs.Prelude.{None, Some, List, [], ◌∷◌, ◌++◌, length, Result, Ok, Err}
use Rattle.wire_msg.specs.{Content, IsBad, IsOpen, Message, SpellsMsg, Split}
use Rattle.wire_peer.specs.{Table, after_reply, allowed, awaiting, owner, reply_to}
use Rattle.wire_peer.specs.declared.call_table.Outstanding.{Outstanding}
use Rattle.wire_peer.specs.declared.call_table.ReadyReply.{ReadyReply}
use Rattle.wire_peer.specs.declared.calls.CallKind.{CallKind}
use Rattle.wire_peer.specs.declared.calls.CallNo.{CallNo}
use Rattle.wire_peer.specs.declared.client_state.ClientCause.{ClientCause}
use Rattle.wire_peer.specs.declared.client_state.ClientCause.TheVariants as causes
use Rattle.wire_peer.specs.declared.client_state.ClientState.{ClientState}
use Rattle.wire_peer.specs.declared.client_state.ClientState.TheVariants.{Open, Closed}
use Rattle.wire_model.specs.Machines.{Done}
use Rattle.wire_model.specs.Conns.{Record}
use Rattle.wire_model.specs.Owners.{Calls, ClientAct, ClientEnd, Collects, EndsDown, SendsUp}
use Rattle.wire_model.specs.Owners.{TakesDown, bytes_taken}

-- ---- what a client hears

-- what a client hears: a call that it makes, or a whole message
pub data Heard : Type 0 where
  Made : (kind : CallKind) → (call : CallNo) → Heard
  Got : (m : Message) → Heard

-- the messages among what is heard
abbrev pub got : List Heard → List Message
got [] = []
got (Made kind call ∷ hs) = got hs
got (Got m ∷ hs) = m ∷ got hs

-- the bytes are a message within the limit
abbrev pub IsMessageOf : ℕ → List ℕ → Message → Type 0
IsMessageOf limit bytes m = SpellsMsg m bytes × (length bytes ≤ limit)

-- What a client hears in these acts, if it holds these bytes of a message before them: a call when
-- it makes it, and a message when it takes the last byte of it.
abbrev pub Hears : ℕ → List ℕ → List ClientAct → List Heard → Type 0
Hears limit held [] hs = hs ≡ []
Hears limit held (Calls kind payload number ∷ acts) hs =
    (more : List Heard) × (hs ≡ Made kind number ∷ more) × Hears limit held acts more
Hears limit held (SendsUp bytes ∷ acts) hs = Hears limit held acts hs
Hears limit held (TakesDown bytes ∷ acts) hs =
    ((m : Message) × (more : List Heard) × IsMessageOf limit (held ++ bytes) m
    × (hs ≡ Got m ∷ more) × Hears limit [] acts more)
    ⊎ (((m : Message) → IsMessageOf limit (held ++ bytes) m → ⊥)
    × Hears limit (held ++ bytes) acts hs)
Hears limit held (Collects reply m ∷ acts) hs = Hears limit held acts hs
Hears limit held (EndsDown ∷ acts) hs = Hears limit held acts hs

-- ---- what comes of it

-- What follows from what a client heard: the outstanding calls; the replies so far, each with its
-- message; and, if a message closes the client, the cause.
pub record Hearing : Type 0 where
  pub table : Table
  pub replies : List (ReadyReply × Message)
  pub cause : Option ClientCause

-- nothing was heard
abbrev pub silence : Hearing
silence = record { table = []; replies = []; cause = None }

-- what follows after a message that is a reply to this call, or that closes the client
abbrev pub replied : Hearing → Message → Result (ℤ × Outstanding) ClientCause → Hearing
replied h m (Ok o) = record {
  table = after_reply h.table o m.id m.flags.more_to_come;
  replies = h.replies ++ (reply_to o m.flags.more_to_come, m) ∷ [];
  cause = h.cause;
}
replied h m (Err cause) = record { table = h.table; replies = h.replies; cause = Some cause }

-- What follows after one more thing is heard: a call becomes outstanding if it awaits a reply, and
-- a message is a reply to the call that owns it by its responseTo.
abbrev pub hear : Hearing → Heard → Hearing
hear h (Made kind call) =
    record { table = awaiting h.table kind call; replies = h.replies; cause = h.cause }
hear h (Got m) = replied h m (allowed m.flags.more_to_come (owner h.table m.response_to))

-- what follows after all of these, one after another
abbrev pub hear_all : Hearing → List Heard → Hearing
hear_all h [] = h
hear_all h (x ∷ xs) = hear_all (hear h x) xs

-- nothing is heard after a message that closes the client
abbrev pub IsLastHeard : Hearing → List Heard → Type 0
IsLastHeard h heard =
    (before after : List Heard) → heard ≡ before ++ after → (hear_all h before).cause ≢ None
    → after ≡ []

-- ---- what the owner of the client sees

-- the replies that were handed out in these acts, each with its message
abbrev pub handed : List ClientAct → List (ReadyReply × Message)
handed [] = []
handed (Calls kind payload number ∷ acts) = handed acts
handed (SendsUp bytes ∷ acts) = handed acts
handed (TakesDown bytes ∷ acts) = handed acts
handed (Collects reply m ∷ acts) = (reply, m) ∷ handed acts
handed (EndsDown ∷ acts) = handed acts

-- the reply that is ready, if one is, with its message
abbrev pub IsReadyWith : Option ReadyReply → List ℕ → List (ReadyReply × Message) → Type 0
IsReadyWith None held out = out ≡ []
IsReadyWith (Some reply) held out = (m : Message) × SpellsMsg m held × (out ≡ (reply, m) ∷ [])

-- the contents of the replies to this call, in order
abbrev pub parts_to : ℕ → List (ReadyReply × Message) → List Content
parts_to call [] = []
parts_to call (r ∷ rs) =
    if r.0.call == call then r.1.content ∷ parts_to call rs else parts_to call rs

-- the last reply to this call is among them
abbrev pub HasLast : ℕ → List (ReadyReply × Message) → Type 0
HasLast call [] = ⊥
HasLast call (r ∷ rs) = ((r.0.call ≡ call) × (r.0.last ≡ true)) ⊎ HasLast call rs

-- none of the replies is to this call
abbrev pub NoneTo : ℕ → List (ReadyReply × Message) → Type 0
NoneTo call [] = Unit {0}
NoneTo call (r ∷ rs) = (r.0.call ≡ call → ⊥) × NoneTo call rs

-- no reply to a call follows its last one
abbrev pub NoneBehind : List (ReadyReply × Message) → Type 0
NoneBehind [] = Unit {0}
NoneBehind (r ∷ rs) = (r.0.last ≡ true → NoneTo r.0.call rs) × NoneBehind rs

-- The state of a client after what it took. If no message closed it, it is open, and the rest may
-- still become a message; or it was told the end, between two messages or inside one, by whether
-- there is a rest; or the rest is bad, and closed it. Or a message closed it that belongs to no
-- call, or announces more replies than its call allows.
abbrev pub ClosesBy : ℕ → List ℕ → Option ClientCause → ClientState → Type 0
ClosesBy limit rest None Open = IsOpen limit rest
ClosesBy limit rest None (Closed causes.Ended) = rest ≡ []
ClosesBy limit rest None (Closed causes.EndedInside) = (rest ≢ []) × IsOpen limit rest
ClosesBy limit rest None (Closed (causes.Message f)) = IsBad limit rest f
ClosesBy limit rest None (Closed (causes.UnknownReply to)) = ⊥
ClosesBy limit rest None (Closed causes.MoreNotAllowed) = ⊥
ClosesBy limit rest None (Closed causes.StreamBroken) = ⊥
ClosesBy limit rest (Some cause) state = (state ≡ Closed cause) × (rest ≡ [])

-- the client is closed since no more bytes come
abbrev pub IsOver : ClientState → Type 0
IsOver state = (state ≡ Closed causes.Ended) ⊎ (state ≡ Closed causes.EndedInside)

-- What a client received splits into messages and a rest, in exactly one way. The replies that it
-- handed out, and then the one that is ready, are these messages in order, each once, each to the
-- call that owns it, and none after a call's last one; only a message that closes the client is no
-- reply. The record of a call has the contents of the replies that were handed out to it, and is
-- done exactly if the last one was. The first message that is bad, that belongs to no call, or that
-- announces more replies than its call allows closes the client, with that cause, and is the last
-- one.
pub record HoldsAlone (limit : ℕ) (acts : List ClientAct) (new : ClientEnd) : Type 0 where
  pub heard : List Heard
  pub hears : Hears limit [] acts heard
  pub rest : List ℕ
  pub split : Split limit (bytes_taken acts) (got heard) rest
  pub only : (others : List Message) (after : List ℕ) → Split limit (bytes_taken acts) others after
      → (got heard ≡ others) × (rest ≡ after)
  pub ready : List (ReadyReply × Message)
  pub ready_is : IsReadyWith new.client.reply new.client.held ready
  pub replies : (hear_all silence heard).replies ≡ handed acts ++ ready
  pub none_behind : NoneBehind (handed acts ++ ready)
  pub parts : (n : ℕ) (x : Record) → slice_get new.records n ≡ Some x
      → x.parts ≡ parts_to n (handed acts)
  pub done : (n : ℕ) (x : Record) → slice_get new.records n ≡ Some x
      → (x.state ≡ Done → HasLast n (handed acts)) × (HasLast n (handed acts) → x.state ≡ Done)
  pub table : (hear_all silence heard).table ≡ new.client.requests.outstanding
  pub closes : ClosesBy limit rest (hear_all silence heard).cause new.client.state
  pub last : IsLastHeard silence heard
  pub told : IsOver new.client.state → Contains acts EndsDown
