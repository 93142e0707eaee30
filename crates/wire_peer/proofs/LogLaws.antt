-- What asking a handler adds to its log.
use Rattle.std.proofs.Common.{◌≡◌, ◌≢◌, ℕ, List, [], ◌∷◌, ◌++◌, refl, ap, Option, Some, None}
use Rattle.std.specs.Prelude.{ℤ, Result, Ok, Err}
use Rattle.std.specs.Result.{IsErrAnd}
use Rattle.wire_msg.specs.{Content}
use Rattle.wire_peer.specs.declared.log.AskRefusal.{AskRefusal}
use Rattle.wire_peer.specs.declared.log.AskRefusal.TheVariants.{NotAsked, Stopped}
use Rattle.wire_peer.specs.declared.log.Entry.{Entry}
use Rattle.wire_peer.specs.Logs.{AskStep, Does, LogEntry, LogStep, OutcomeStep, RunOf, Stops, entered, entry_of, log_of}
use Rattle.wire_peer.specs.declared.log.NoReplies.{NoReplies}
use Rattle.wire_peer.specs.declared.reply_buf.ReplyRefusal.{ReplyRefusal}
use Rattle.wire_peer.specs.declared.reply_buf.ReplyRefusal.TheVariants as pushes
use Rattle.wire_peer.specs.Chains.{ReplyState}
use Rattle.wire_peer.specs.Refusals.{of_push}
use Rattle.wire_peer.specs.Replying.{IsAnswered, PutStep, ReplyStep}
use Rattle.wire_peer.specs.Requests.{Asked}

-- a log with one more entry
pub log_of-push : (entries : List Entry) (e : Entry) → log_of (entries ++ e ∷ []) ≡ log_of entries ++ entry_of e ∷ []
log_of-push [] e = refl
log_of-push (x ∷ xs) e = ap (λ (ls : List LogEntry). entry_of x ∷ ls) (log_of-push xs e)

-- entries whose payloads are the same are the same
pub same_entry : (connection : ℕ) (a : Asked) (o : Option (List Content)) (p : Content) → p ≡ a.payload → record { connection = connection; payload = p; answers = o } ≡ entered connection a o
same_entry connection a o p e = ap (λ c. record { connection = connection; payload = c; answers = o }) e

module _ {H : Type 0} (does : Does H) (stops : Stops H) where
  -- a run goes on with one more request and its entry
  pub run_push : (from mid to : H) (requests : List Asked) (log : List LogEntry) (a : Asked) (e : LogEntry) → RunOf does stops from requests log mid
      → e.payload ≡ a.payload → LogStep does stops mid a e.answers to → RunOf does stops from (requests ++ a ∷ []) (log ++ e ∷ []) to
  run_push from mid to [] [] a e run payload step = (to, payload, rw run step, refl)
  run_push from mid to [] (x ∷ log) a e run payload step = absurd run
  run_push from mid to (n ∷ requests) [] a e run payload step = absurd run
  run_push from mid to (n ∷ requests) (x ∷ log) a e run payload step = (run.0, run.1, run.2, run_push run.0 mid to requests log a e run.3 payload step)

  -- and so with what asking a request adds to the log
  pub run_goes_on : (from mid to : H) (requests : List Asked) (log next : List LogEntry) (connection : ℕ) (a : Asked) (r : Result (Unit {0}) AskRefusal) → RunOf does stops from requests log mid
      → AskStep does stops connection a r mid log to next → r ≢ Err NotAsked → RunOf does stops from (requests ++ a ∷ []) next to
  run_goes_on from mid to requests log next connection a (Ok x) run step asked =
      rw step.3 (run_push from mid to requests log a (entered connection a (Some step.0)) run refl (step.1, step.2))
  run_goes_on from mid to requests log next connection a (Err (Stopped stop)) run step asked =
      rw step.1 (run_push from mid to requests log a (entered connection a None) run refl (stop, step.0))
  run_goes_on from mid to requests log next connection a (Err NotAsked) run step asked = absurd (asked refl)

  -- what became of a request stands in the log
  pub asked_step : (connection : ℕ) (a : Asked) (o : Option (List Content)) (r : Result (Unit {0}) AskRefusal) (h h' : H) (log log' : List LogEntry)
      → OutcomeStep does stops a o r h h' → log' ≡ log ++ entered connection a o ∷ [] → AskStep does stops connection a r h log h' log'
  asked_step connection a (Some answers) (Ok x) h h' log log' step e = (answers, step.0, step.1, e)
  asked_step connection a (Some answers) (Err x) h h' log log' step e = absurd step
  asked_step connection a None (Ok x) h h' log log' step e = absurd step
  asked_step connection a None (Err (Stopped stop)) h h' log log' step e = (step, e)
  asked_step connection a None (Err NotAsked) h h' log log' step e = absurd step

  -- answers weren't put as replies
  pub not_replied : (connection : ℕ) (to : ℤ) (a : Asked) (answers : List Content) (h h' : H) (log log' : List LogEntry) (s s' : ReplyState) (e : ReplyRefusal) (r : Result (Unit {0}) NoReplies)
      → IsAnswered does connection a answers h log h' log' → PutStep to a answers (Err e) s s' → IsErrAnd r (λ n. n ≡ of_push e)
      → ReplyStep does stops connection to a r h log s h' log' s'
  not_replied connection to a answers h h' log log' s s' e (Ok x) was step is = absurd is
  not_replied connection to a answers h h' log log' s s' pushes.TooLarge (Err n) was step is = rw is (answers, was, step.0, step.1)
  not_replied connection to a answers h h' log log' s s' pushes.OutOfMemory (Err n) was step is = rw is (answers, was, step.0, step.1, step.2)
