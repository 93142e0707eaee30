-- What answering a request does to the handler, the log and the server.
use Rattle.std.proofs.Common.{◌≡◌, ℕ, List, [], ◌∷◌, ◌++◌, refl, ap, Option, Some, None, ◌⊎◌, inl, inr, Result, Ok, Err}
use Rattle.std.specs.Prelude.{remove}
use Rattle.std.proofs.lemmas.Option.{none-some}
use Rattle.wire_msg.specs.{Content, Message}
use Rattle.wire_stream.specs.declared.reader_state.ReaderState.{ReaderState}
use Rattle.wire_stream.specs.declared.reader_state.ReaderState.TheVariants.{Need, Ready, Bad}
use Rattle.wire_peer.specs.Servers as server_steps
use Rattle.wire_peer.specs.{AnswerStep, Does, LogEntry, LogStep, ServerView, Stops, WaitsAt, asked_by, entered}
use Rattle.wire_peer.specs.Replying.{ReplyStep}
use Rattle.wire_peer.specs.ServerAnswers.{cause_of, replies_of}
use Rattle.wire_peer.specs.declared.log.NoReplies.{NoReplies}
use Rattle.wire_peer.specs.declared.log.NoReplies.TheVariants as reasons
use Rattle.wire_peer.specs.declared.server_state.AnswerRefusal.{AnswerRefusal}
use Rattle.wire_peer.specs.declared.server_state.AnswerRefusal.TheVariants as refusals
use Rattle.wire_peer.specs.declared.server_state.ServerCause.{ServerCause}
use Rattle.wire_peer.specs.declared.server_state.ServerState.TheVariants as servers

-- what is fed keeps its connection
pub fed_connection : (s : ServerView) (bytes : List ℕ) (found : ReaderState)
    → (server_steps.holding s bytes found).connection ≡ s.connection
fed_connection s bytes Need = refl
fed_connection s bytes Ready = refl
fed_connection s bytes (Bad fault) = refl

-- nothing was done
pub record NotDone {H : Type 0} (s s' : ServerView) (h h' : H) (log log' : List LogEntry)
    : Type 0 where
  pub server : s' ≡ s
  pub handler : h' ≡ h
  pub entries : log' ≡ log

-- the handler was asked a request that waited, and this is its entry
pub record WasAsked {H : Type 0} (does : Does H) (stops : Stops H) (i : ℕ) (s s' : ServerView)
    (h h' : H) (log log' : List LogEntry) : Type 0 where
  pub m : Message
  pub waits : WaitsAt s i m
  pub answers : Option (List Content)
  pub step : LogStep does stops h (asked_by m) answers h'
  pub entry : log' ≡ log ++ entered s.connection (asked_by m) answers ∷ []
  pub was_open : s.state ≡ servers.Open
  pub connection : s'.connection ≡ s.connection
  pub limit : s'.limit ≡ s.limit
  pub held : s'.held ≡ s.held
  pub waiting : s'.waiting ≡ remove s.waiting i

module _ {H : Type 0} (does : Does H) (stops : Stops H) where
  no_replies : (s s' : ServerView) (i : ℕ) (h h' : H) (log log' : List LogEntry) (m : Message)
      (cause : ServerCause) (why : NoReplies) → cause_of why ≡ Some cause
      → ReplyStep does stops s.connection m.id (asked_by m) (Err why) h log (replies_of s) h' log'
      (replies_of s)
      → (answers : Option (List Content)) × LogStep does stops h (asked_by m) answers h'
      × (log' ≡ log ++ entered s.connection (asked_by m) answers ∷ [])
  no_replies s s' i h h' log log' m cause reasons.NotAsked is x = absurd (none-some cause is)
  no_replies s s' i h h' log log' m cause (reasons.Stopped stop) is x = (None, (stop, x.0), x.1)
  no_replies s s' i h h' log log' m cause reasons.TooLarge is x =
      (Some x.0, (x.1.answered, x.1.count), x.1.entry)
  no_replies s s' i h h' log log' m cause reasons.NoMemory is x =
      (Some x.0, (x.1.answered, x.1.count), x.1.entry)

  pub asking : (i : ℕ) (result : Result ℕ AnswerRefusal) (s s' : ServerView) (h h' : H)
      (log log' : List LogEntry) → AnswerStep does stops i result s h log s' h' log'
      → NotDone s s' h h' log log' ⊎ WasAsked does stops i s s' h h' log log'
  asking i (Ok n) s s' h h' log log' (live, many, (m, waits, (r, (answers, got, short, put), e))) =
      inr (record {
        m = m;
        waits = waits;
        answers = Some answers;
        step = (got.answered, got.count);
        entry = got.entry;
        was_open = live;
        connection = ap (λ (z : ServerView). z.connection) e;
        limit = ap (λ (z : ServerView). z.limit) e;
        held = ap (λ (z : ServerView). z.held) e;
        waiting = ap (λ (z : ServerView). z.waiting) e;
      })
  asking i (Err (refusals.NowClosed cause)) s s' h h' log log'
      (live, e, (m, waits, (why, is, step))) =
      let a = no_replies s s' i h h' log log' m cause why is step in
      inr (record {
        m = m;
        waits = waits;
        answers = a.0;
        step = a.1;
        entry = a.2;
        was_open = live;
        connection = ap (λ (z : ServerView). z.connection) e;
        limit = ap (λ (z : ServerView). z.limit) e;
        held = ap (λ (z : ServerView). z.held) e;
        waiting = ap (λ (z : ServerView). z.waiting) e;
      })
  asking i (Err refusals.Closed) s s' h h' log log' x =
      inl (record { server = x.1; handler = x.2; entries = x.3 })
  asking i (Err refusals.NoSuchRequest) s s' h h' log log' x =
      inl (record { server = x.2; handler = x.3; entries = x.4 })
  asking i (Err refusals.OutOfMemory) s s' h h' log log' x =
      inl (record { server = x.2; handler = x.3; entries = x.4 })
