-- The machine goes on as a server answers.
use Rattle.std.proofs.Common.{◌≡◌, ℕ, List, subst, sym, Result, Ok, Err}
use Rattle.wire_peer.specs.{AnswerStep, Does, LogEntry, ServerView, Stops}
use Rattle.wire_peer.specs.declared.server_state.AnswerRefusal.{AnswerRefusal}
use Rattle.wire_peer.specs.declared.server_state.AnswerRefusal.TheVariants as refusals
use Rattle.wire_peer.specs.declared.server_state.ServerCause.{ServerCause}
use Rattle.wire_model.specs.Conns.{Conn}
use Rattle.wire_model.specs.Machines.{Machine}
use Rattle.wire_model.specs.Shown.{shown_calls}
use Rattle.wire_model.specs.Happening.{AreContents}
use Rattle.wire_model.proofs.Agreeing.{Here}
use Rattle.wire_model.proofs.Outcomes.{LeavesSome, answered_leaves, closed_leaves}
use Rattle.wire_model.proofs.Promises.{Ok as IsOk}
use Rattle.wire_model.proofs.Reaches.{Reaches}

module _ (H : Type 0) (does : Does H) (stops : Stops H) where
  -- the machine goes on to what the answer leaves
  reaches_left : (limit c i : ℕ) (k : Conn) (m : Machine H) (s : ServerView) (h : H) (log : List LogEntry) (taken given : List ℕ) (here : Here limit c k m taken given)
      → LeavesSome does stops limit c i k s m here.route log h → Reaches H does stops limit c (record k { server = s }) m (shown_calls m.calls) log h taken given
  reaches_left limit c i k m s h log taken given here (msg, waits, left) = record {
    next = left.next;
    steps = left.steps;
    here = record { route = left.route; fits = left.fits; raw = λ raw. left.raw taken given (here.raw raw) };
    others = left.others;
    calls_are = left.calls_are;
    log_is = left.log_is;
    handler_is = left.handler_is;
  }

  -- an answer from a handler and a log that are those of the machine
  step_ours : (i : ℕ) (result : Result ℕ AnswerRefusal) (k : Conn) (m : Machine H) (handler : H) (old : List LogEntry) (s : ServerView) (h : H) (log : List LogEntry) → m.handler ≡ handler → m.log ≡ old
      → AnswerStep does stops i result k.server handler old s h log → AnswerStep does stops i result k.server m.handler m.log s h log
  step_ours i result k m handler old s h log same_handler same_log step =
      subst (λ z. AnswerStep does stops i result k.server z m.log s h log) (sym same_handler) (subst (λ z. AnswerStep does stops i result k.server handler z s h log) (sym same_log) step)

  -- a request is answered
  pub answered_reaches : (limit c i n : ℕ) (k : Conn) (m : Machine H) (handler : H) (old : List LogEntry) (s : ServerView) (h : H) (log : List LogEntry) (taken given : List ℕ) → IsOk m → Here limit c k m taken given → m.handler ≡ handler → m.log ≡ old
      → AnswerStep does stops i (Ok n) k.server handler old s h log → AreContents log → Reaches H does stops limit c (record k { server = s }) m (shown_calls m.calls) log h taken given
  answered_reaches limit c i n k m handler old s h log taken given ok here same_handler same_log step contents =
      reaches_left limit c i k m s h log taken given here (answered_leaves does stops limit c i k m here.route ok here.fits n s h log (step_ours i (Ok n) k m handler old s h log same_handler same_log step) contents)

  -- the server closes at a request
  pub closed_reaches : (limit c i : ℕ) (cause : ServerCause) (k : Conn) (m : Machine H) (handler : H) (old : List LogEntry) (s : ServerView) (h : H) (log : List LogEntry) (taken given : List ℕ) → IsOk m → Here limit c k m taken given → m.handler ≡ handler → m.log ≡ old
      → AnswerStep does stops i (Err (refusals.NowClosed cause)) k.server handler old s h log → Reaches H does stops limit c (record k { server = s }) m (shown_calls m.calls) log h taken given
  closed_reaches limit c i cause k m handler old s h log taken given ok here same_handler same_log step =
      reaches_left limit c i k m s h log taken given here (closed_leaves does stops limit c i k m here.route ok here.fits cause s h log (step_ours i (Err (refusals.NowClosed cause)) k m handler old s h log same_handler same_log step))
