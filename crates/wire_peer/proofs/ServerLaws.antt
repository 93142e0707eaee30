-- What the calls of a server leave of its parts.
use Rattle.std.proofs.Common.{◌≡◌, ℕ, ◌<◌, All, List, [], length, None, Some, refl, slice_get, subst, suc, arith, Result, Ok, Err}
use Rattle.std.proofs.lemmas.List.Elements.{All-append, All-drop, All-push, All-take}
use Rattle.std.proofs.lemmas.Option.{get_or_from_slice_get, slice_get_within}
use Rattle.std.specs.VecDeque.{deque_len}
use Rattle.std.specs.declared.alloc.Global.{Global}
use Rattle.std.specs.declared.collections.VecDeque.{VecDeque}
use Rattle.wire_msg.specs.{IsMessage, IsOpen, Message, SpellsMsg}
use Rattle.wire_msg.specs.Standing.{in_header}
use Rattle.wire_stream.specs.{Feeds, Reading, StandsAt}
use Rattle.wire_stream.specs.declared.reader_state.ReaderState.{ReaderState}
use Rattle.wire_stream.specs.declared.reader_state.ReaderState.TheVariants.{Need, Ready, Bad}
use Rattle.wire_peer.specs.declared.handlers.HandlerStop.TheVariants as stop
use Rattle.wire_peer.specs.declared.log.NoReplies.{NoReplies}
use Rattle.wire_peer.specs.declared.log.NoReplies.TheVariants.{NotAsked, Stopped, TooLarge, NoMemory}
use Rattle.wire_peer.specs.declared.server_state.AnswerRefusal.TheVariants as refusals
use Rattle.wire_peer.specs.declared.server_state.ServerCause.{ServerCause}
use Rattle.wire_peer.specs.declared.server_state.ServerState.{ServerState}
use Rattle.wire_peer.specs.declared.server_state.ServerState.TheVariants.{Open, Closed}
use Rattle.wire_peer.specs.ServerAnswers.{AnswerStep, cause_of}
use Rattle.wire_peer.specs.Chains.{ReplyState}
use Rattle.wire_peer.specs.Logs.{Does, LogEntry, Stops}
use Rattle.wire_peer.specs.Replying.{ReplyStep}
use Rattle.wire_peer.specs.Requests.{Asked, asked_by}
use Rattle.wire_peer.specs.Servers.{ServerView, TakesBytes}
use Rattle.wire_peer.specs.ServerParts.{AreParts, IsAccepted, IsSettled, IsTakenOut, view_of}

pub nothing_is_open : (limit : ℕ) → IsOpen limit []
nothing_is_open limit = in_header (omega arith)

-- ---- bytes that come

-- a message that was accepted leaves parts that belong together
accepted : (w l : ℕ) (old fed reader' : Reading) (q q' : VecDeque (List ℕ) Global) (r : ReplyState)
    → AreParts w l old q r Open → fed.limit ≡ l → IsMessage l fed.held → deque_len q < w → IsAccepted fed q reader' q' → AreParts w l reader' q' r Open
accepted w l old fed reader' q q' r k same m short a = record {
  window_is = k.window_is;
  limit_is = k.limit_is;
  read_limit = rw a.emptied same;
  reply_limit = k.reply_limit;
  between = λ _. rw a.emptied (nothing_is_open l);
  room = rw a.room k.room;
  within = rw a.count (omega arith);
  each = rw a.last (All-push (IsMessage l) q.items fed.held k.each m);
}

-- what was found leaves parts that belong together
pub settled : (found : ReaderState) (w l : ℕ) (old fed reader' : Reading) (q q' : VecDeque (List ℕ) Global) (r : ReplyState) (state : ServerState)
    → AreParts w l old q r Open → fed.limit ≡ l → StandsAt l fed.held found → deque_len q < w → IsSettled found fed q reader' q' state → AreParts w l reader' q' r state
settled Need w l old fed reader' q q' r state k same s short x = rw (x.0, x.1, x.2) (record {
  window_is = k.window_is;
  limit_is = k.limit_is;
  read_limit = same;
  reply_limit = k.reply_limit;
  between = λ _. s;
  room = k.room;
  within = k.within;
  each = k.each;
})
settled Ready w l old fed reader' q q' r state k same s short x = rw x.1 (accepted w l old fed reader' q q' r k same s short x.0)
settled (Bad f) w l old fed reader' q q' r state k same s short x = rw (x.0, x.1, x.2) (record {
  window_is = k.window_is;
  limit_is = k.limit_is;
  read_limit = same;
  reply_limit = k.reply_limit;
  between = λ e. absurd (cc);
  room = k.room;
  within = k.within;
  each = k.each;
})

-- what was found is what the server took
pub took : (found : ReaderState) (connection w l : ℕ) (reader fed reader' : Reading) (q q' : VecDeque (List ℕ) Global) (r : ReplyState) (state : ServerState) (piece : List ℕ) (n : ℕ)
    → Feeds l reader.held piece fed.held (record { taken = n; state = found }) → IsSettled found fed q reader' q' state
    → TakesBytes (view_of connection w l reader q r Open) piece n (view_of connection w l reader' q' r state)
took Need connection w l reader fed reader' q q' r state piece n f x = record { bytes = fed.held; found = Need; fed = f; is = rw (x.0, x.1, x.2) }
took Ready connection w l reader fed reader' q q' r state piece n f x =
    let a = x.0 in record { bytes = fed.held; found = Ready; fed = f; is = rw (a.emptied, a.last, x.1) }
took (Bad fault) connection w l reader fed reader' q q' r state piece n f x = record { bytes = fed.held; found = Bad fault; fed = f; is = rw (x.0, x.1, x.2) }

-- ---- requests that are answered

-- the parts without one of the messages
pub without_one : (w l k : ℕ) (reader : Reading) (q q' : VecDeque (List ℕ) Global) (r r' : ReplyState) (s s' : ServerState)
    → AreParts w l reader q r s → s ≡ Open → IsTakenOut q k q' → r'.limit ≡ r.limit → AreParts w l reader q' r' s'
without_one w l k reader q q' r r' s s' a was t same = record {
  window_is = a.window_is;
  limit_is = a.limit_is;
  read_limit = a.read_limit;
  reply_limit = rw same a.reply_limit;
  between = λ _. a.between was;
  room = rw t.room a.room;
  within = omega (arith, t.count, a.within);
  each = rw t.others (All-append (IsMessage l) _ _ (All-take (IsMessage l) k q.items a.each) (All-drop (IsMessage l) (suc k) q.items a.each));
}

-- replies are appended under one limit
pub limit_stays : {H : Type 0} (does : Does H) (stops : Stops H) (connection : ℕ) (id : _) (a : Asked) (result : Result (Unit {0}) NoReplies) (h h' : H) (log log' : List LogEntry) (r r' : ReplyState)
    → ReplyStep does stops connection id a result h log r h' log' r' → r'.limit ≡ r.limit
limit_stays does stops connection id a (Ok _) h h' log log' r r' x = rw x.3
limit_stays does stops connection id a (Err NotAsked) h h' log log' r r' x = rw x.2
limit_stays does stops connection id a (Err (Stopped stop)) h h' log log' r r' x = rw x.2
limit_stays does stops connection id a (Err TooLarge) h h' log log' r r' x = rw x.3
limit_stays does stops connection id a (Err NoMemory) h h' log log' r r' x = rw x.4

-- without replies none is appended
pub none_put : {H : Type 0} (does : Does H) (stops : Stops H) (connection : ℕ) (id : _) (a : Asked) (why : NoReplies) (h h' : H) (log log' : List LogEntry) (r r' : ReplyState)
    → ReplyStep does stops connection id a (Err why) h log r h' log' r' → r' ≡ r
none_put does stops connection id a NotAsked h h' log log' r r' x = x.2
none_put does stops connection id a (Stopped stop) h h' log log' r r' x = x.2
none_put does stops connection id a TooLarge h h' log log' r r' x = x.3
none_put does stops connection id a NoMemory h h' log log' r r' x = x.4

-- each message that waits is one
pub is_waiting : (limit : ℕ) (xs : List (List ℕ)) (k : ℕ) (bytes : List ℕ) → All (IsMessage limit) xs → slice_get xs k ≡ Some bytes → IsMessage limit bytes
is_waiting limit xs k bytes each at = rw (get_or_from_slice_get xs k bytes bytes at) at (each k bytes (slice_get_within xs k bytes at))

-- The k-th of the messages that wait was asked of a handler with this result. What was put behind the replies, and what has
-- become of the handler and the log.
pub record WasAsked {H : Type 0} (does : Does H) (stops : Stops H) (connection : ℕ) (q : VecDeque (List ℕ) Global) (k : ℕ)
    (result : Result (Unit {0}) NoReplies) (h h' : H) (log log' : List LogEntry) (r r' : ReplyState) : Type 0 where
  pub message : Message
  pub bytes : List ℕ
  pub at : slice_get q.items k ≡ Some bytes
  pub spelled : SpellsMsg message bytes
  pub step : ReplyStep does stops connection message.id (asked_by message) result h log r h' log' r'

-- an answered request
pub answered_step : {H : Type 0} (does : Does H) (stops : Stops H) (connection w l k n : ℕ) (reader : Reading) (q q' : VecDeque (List ℕ) Global) (r r' : ReplyState) (s : ServerView) (h h' : H) (log log' : List LogEntry)
    → view_of connection w l reader q r Open ≡ s → r.limit ≡ l → n ≡ length log → WasAsked does stops connection q k (Ok tt) h h' log log' r r' → IsTakenOut q k q'
    → AnswerStep does stops k (Ok n) s h log (view_of connection w l reader q' r' Open) h' log'
answered_step does stops connection w l k n reader q q' r r' s h h' log log' was same number a t =
    rw (← was, ← same, t.others) (refl, number, (a.message, record { bytes = a.bytes; at = a.at; spelled = a.spelled }, (r', a.step, refl)))

-- a request in which the server closed
pub closed_step : {H : Type 0} (does : Does H) (stops : Stops H) (connection w l k : ℕ) (why : NoReplies) (cause : ServerCause) (reader : Reading) (q q' : VecDeque (List ℕ) Global) (r r' : ReplyState) (s : ServerView) (h h' : H) (log log' : List LogEntry)
    → view_of connection w l reader q r Open ≡ s → r.limit ≡ l → cause_of why ≡ Some cause → WasAsked does stops connection q k (Err why) h h' log log' r r' → IsTakenOut q k q'
    → AnswerStep does stops k (Err (refusals.NowClosed cause)) s h log (view_of connection w l reader q' r' (Closed cause)) h' log'
closed_step {H} does stops connection w l k why cause reader q q' r r' s h h' log log' was same is a t =
    let none = none_put does stops connection a.message.id (asked_by a.message) why h h' log log' r r' a.step in
    let step : ReplyStep does stops connection a.message.id (asked_by a.message) (Err why) h log r h' log' r =
    subst (λ (x : ReplyState). ReplyStep does stops connection a.message.id (asked_by a.message) (Err why) h log r h' log' x) none a.step in
    let Step : ℕ → ServerView → Type 0 = λ limit old. AnswerStep does stops k (Err (refusals.NowClosed cause)) old h log (view_of connection w limit reader q' r' (Closed cause)) h' log' in
    let own : Step r.limit (view_of connection w r.limit reader q r Open) =
    (refl, rw (t.others, none) refl, (a.message, record { bytes = a.bytes; at = a.at; spelled = a.spelled }, (why, is, step))) in
    let limited : Step l (view_of connection w l reader q r Open) = subst (λ (limit : ℕ). Step limit (view_of connection w limit reader q r Open)) same own in
    subst (λ (old : ServerView). Step l old) was limited

-- a request that the handler wasn't asked
pub unasked_step : {H : Type 0} (does : Does H) (stops : Stops H) (connection w l k : ℕ) (why : NoReplies) (reader : Reading) (q : VecDeque (List ℕ) Global) (r r' : ReplyState) (s : ServerView) (h h' : H) (log log' : List LogEntry)
    → view_of connection w l reader q r Open ≡ s → cause_of why ≡ None → WasAsked does stops connection q k (Err why) h h' log log' r r'
    → AnswerStep does stops k (Err refusals.OutOfMemory) s h log (view_of connection w l reader q r' Open) h' log'
unasked_step does stops connection w l k NotAsked reader q r r' s h h' log log' was is a =
    let x = a.step in rw (← was) (refl, slice_get_within q.items k a.bytes a.at, rw x.2, x.0, x.1)
unasked_step does stops connection w l k (Stopped stop.Failed) reader q r r' s h h' log log' was is a = absurd (cc)
unasked_step does stops connection w l k (Stopped stop.OutOfMemory) reader q r r' s h h' log log' was is a = absurd (cc)
unasked_step does stops connection w l k TooLarge reader q r r' s h h' log log' was is a = absurd (cc)
unasked_step does stops connection w l k NoMemory reader q r r' s h h' log log' was is a = absurd (cc)
