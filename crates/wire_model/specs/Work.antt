-- The work that is left at a pair: how much it is, which steps do some of it, and what can be done.
use Rattle.std.specs.Prelude.{◌≡◌, ◌≢◌, ℕ, ◌+◌, ◌*◌, ◌<◌, ◌⊎◌, Option, None, Some, List, [], length}
use Rattle.std.specs.Prelude.{Result, Ok, Err}
use Rattle.wire_peer.specs.{AnswerStep, Does, LogEntry, ServerView, Stops}
use Rattle.wire_peer.specs.declared.call_table.ReadyReply.{ReadyReply}
use Rattle.wire_peer.specs.declared.client_state.ClientState.TheVariants as clients
use Rattle.wire_peer.specs.declared.server_state.AnswerRefusal.{AnswerRefusal}
use Rattle.wire_peer.specs.declared.server_state.AnswerRefusal.TheVariants as refusals
use Rattle.wire_peer.specs.declared.server_state.ServerState.TheVariants as servers
use Rattle.wire_model.specs.Channels.{Pair, Step, System, pair_at}
use Rattle.wire_model.specs.Channels as channels

-- ---- how much is left

-- The work left on requests: 3 for each byte that has yet to be sent, 2 for each byte in flight,
-- and 1 for each request that waits. It falls with each byte that is sent or taken, since a byte
-- completes at most one request.
abbrev pub up_work : Pair → ℕ
up_work p =
    3 * length p.client.requests.output + 2 * length p.up.bytes + length p.server.waiting

abbrev pub ready_work : Option ReadyReply → ℕ
ready_work None = 0
ready_work (Some reply) = 1

-- the work left on replies, likewise, and 1 for a reply that is ready
abbrev pub down_work : Pair → ℕ
down_work p =
    3 * length p.server.output + 2 * length p.down.bytes + ready_work p.client.reply

-- Less work on requests is left, or as much of it and less work on replies. An answer may put out
-- any number of bytes, so it may add work on replies.
abbrev pub IsLess : (new old : Pair) → Type 0
IsLess new old =
    (up_work new < up_work old)
    ⊎ ((up_work new ≡ up_work old) × (down_work new < down_work old))

-- ---- steps that do some of it

-- a request was answered, or its server closed at it
abbrev pub IsAnswered : Result ℕ AnswerRefusal → Type 0
IsAnswered (Ok n) = Unit {0}
IsAnswered (Err (refusals.NowClosed cause)) = Unit {0}
IsAnswered (Err refusals.Closed) = ⊥
IsAnswered (Err refusals.NoSuchRequest) = ⊥
IsAnswered (Err refusals.OutOfMemory) = ⊥

module _ (H : Type 0) (does : Does H) (stops : Stops H) (limit : ℕ) where
  -- Some bytes of pair c are sent, an end of it is fed some, a request there is answered, or a
  -- reply collected.
  abbrev pub IsWork : (c : ℕ) (old new : System H) → Step H does stops limit old new → Type 0
  IsWork c old new (channels.pairs first_id cw sw least fits e) = ⊥
  IsWork c old new (channels.calls d p kind payload number at is e) = ⊥
  IsWork c old new (channels.sends_up d p n at le e) = (d ≡ c) × (0 < n)
  IsWork c old new (channels.feeds_up d p piece n server way at live room takes t e) =
      (d ≡ c) × (piece ≢ [])
  IsWork c old new (channels.answers d p i result server handler log at step contents e) =
      (d ≡ c) × IsAnswered result
  IsWork c old new (channels.sends_down d p n at le e) = (d ≡ c) × (0 < n)
  IsWork c old new (channels.feeds_down d p piece n client way at may takes t e) =
      (d ≡ c) × (piece ≢ [])
  IsWork c old new (channels.collects d p reply m at ready spells e) = d ≡ c
  IsWork c old new (channels.ends_up d p at e) = ⊥
  IsWork c old new (channels.ends_down d p at e) = ⊥
  IsWork c old new (channels.cuts_up d p n way at t e) = ⊥
  IsWork c old new (channels.cuts_down d p n way at t e) = ⊥

  -- less work is left at pair c, and the other pairs are as they were
  pub record Falls (old new : System H) (c : ℕ) (p : Pair) : Type 0 where
    pub q : Pair
    pub at : pair_at new.pairs c ≡ Some q
    pub less : IsLess q p
    pub others : (d : ℕ) → (d ≡ c → ⊥) → pair_at new.pairs d ≡ pair_at old.pairs d

  -- ---- what can be done

  -- Requests wait at an open server. Whenever the server is to answer one of them, it does, or it
  -- closes at it, or memory runs out.
  pub record MayAnswer (s : System H) (p : Pair) : Type 0 where
    pub is_open : p.server.state ≡ servers.Open
    pub some_wait : p.server.waiting ≢ []
    pub comes : (i : ℕ) (result : Result ℕ AnswerRefusal) (server : ServerView) (handler : H)
        (log : List LogEntry) → i < length p.server.waiting
        → AnswerStep does stops i result p.server s.handler s.log server handler log
        → IsAnswered result ⊎ (result ≡ Err refusals.OutOfMemory)

  -- There is a step that does some of the work at pair c, or a request there to answer.
  abbrev pub CanGoOn : (s : System H) (c : ℕ) (p : Pair) → Type 0
  CanGoOn s c p =
      ∥ ((s' : System H) × (step : Step H does stops limit s s') × IsWork c s s' step) ∥₁
      ⊎ MayAnswer s p

-- both ends are open, neither way is cut, and the server's window is at least 1
pub record IsLive (p : Pair) : Type 0 where
  pub client_open : p.client.state ≡ clients.Open
  pub server_open : p.server.state ≡ servers.Open
  pub up_uncut : p.up.left ≡ None
  pub down_uncut : p.down.left ≡ None
  pub room : 0 < p.server.window
