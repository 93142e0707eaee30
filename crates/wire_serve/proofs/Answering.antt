-- What an answer leaves of a server connection, and what it puts out.
use Rattle.std.proofs.Common.{◌≡◌, ℕ, Bool, true, false, List, [], ◌∷◌, ◌++◌, length, drop, Option, Result, Ok, Err, ap, arith, refl, sym, subst, ◌∙◌, length-drop}
use Rattle.wire_peer.specs.{AnswerStep, Does, LogEntry, ServerView, Stops}
use Rattle.wire_peer.specs.declared.server_state.AnswerRefusal.{AnswerRefusal}
use Rattle.wire_peer.specs.declared.server_state.AnswerRefusal.TheVariants as refusals
use Rattle.wire_serve.specs.declared.cause.CloseCause.{CloseCause}
use Rattle.wire_serve.specs.ServerConnections.{ConnAnswers, ConnView, HasLeft, PutsOut, RespellsReply, with_server}
use Rattle.wire_serve.specs.Kept.{AreKept, view_of}
use Rattle.wire_serve.proofs.Taking.{quiet}

nil_left : (xs ys : List ℕ) → xs ++ ys ≡ [] → xs ≡ []
nil_left [] ys is = refl
nil_left (x ∷ xs) ys is = absurd (cc)

nil_right : (xs ys : List ℕ) → xs ++ ys ≡ [] → ys ≡ []
nil_right xs ys is = sym (ap (λ (z : List ℕ). z ++ ys) (nil_left xs ys is)) ∙ is

-- what an answer keeps of a server
record Same (s s' : ServerView) : Type 0 where
  window : s'.window ≡ s.window
  limit : s'.limit ≡ s.limit
  held : s'.held ≡ s.held

module _ {H : Type 0} (does : Does H) (stops : Stops H) where
  -- a server at which a request waits on is as it was
  pub stays : (refusal : AnswerRefusal) (s s' : ServerView) (h h' : H) (log log' : List LogEntry)
      → AnswerStep does stops 0 (Err refusal) s h log s' h' log' → (HasLeft (Err refusal) → ⊥) → s' ≡ s
  stays (refusals.NowClosed cause) s s' h h' log log' x waits = absurd (waits tt)
  stays refusals.Closed s s' h h' log log' x waits = x.1
  stays refusals.NoSuchRequest s s' h h' log log' x waits = x.2
  stays refusals.OutOfMemory s s' h h' log log' x waits = x.2

  answer_keeps : (k : ℕ) (result : Result ℕ AnswerRefusal) (s s' : ServerView) (h h' : H) (log log' : List LogEntry)
      → AnswerStep does stops k result s h log s' h' log' → Same s s'
  answer_keeps k (Ok n) s s' h h' log log' x = rw x.2.2.2 (record { window = refl; limit = refl; held = refl })
  answer_keeps k (Err (refusals.NowClosed cause)) s s' h h' log log' x = rw x.1 (record { window = refl; limit = refl; held = refl })
  answer_keeps k (Err refusals.Closed) s s' h h' log log' x = rw x.1 (record { window = refl; limit = refl; held = refl })
  answer_keeps k (Err refusals.NoSuchRequest) s s' h h' log log' x = rw x.2 (record { window = refl; limit = refl; held = refl })
  answer_keeps k (Err refusals.OutOfMemory) s s' h h' log log' x = rw x.2 (record { window = refl; limit = refl; held = refl })

  -- the parts of a server connection that had sent all still belong together
  pub still_kept : (result : Result ℕ AnswerRefusal) (s s' : ServerView) (h h' : H) (log log' : List LogEntry) (part reply : List ℕ) (gone : ℕ)
      (cause : Option CloseCause) → AreKept s part reply gone cause → drop gone reply ++ s.output ≡ []
      → AnswerStep does stops 0 result s h log s' h' log' → AreKept s' part reply gone cause
  still_kept result s s' h h' log log' part reply gone cause kept sent step =
      let same = answer_keeps 0 result s s' h h' log log' step in record {
        window = same.window ∙ kept.window;
        limit = same.limit ∙ kept.limit;
        within = kept.within;
        one = λ lt. absurd (omega (arith, lt, ap length (nil_left (drop gone reply) s.output sent), length-drop gone reply));
        begun = kept.begun;
        apart = λ some. kept.apart (λ none. some (same.held ∙ none));
      }

  -- with the server after the answer, the server connection took its output over
  taken_over : (s s' : ServerView) (part reply : List ℕ) (queried : Bool) (gone : ℕ) (cause : Option CloseCause) → drop gone reply ++ s.output ≡ []
      → view_of s' part queried reply gone cause ≡ with_server (view_of s part queried reply gone cause) s'
  taken_over s s' part reply queried gone cause sent =
      ap (λ (o : List ℕ). record (view_of s' part queried reply gone cause) { output = o ++ s'.output }) (nil_left (drop gone reply) s.output sent)

  -- what comes of an answer, by what was put out
  pub answered_as : (result : Result ℕ AnswerRefusal) (s s' : ServerView) (h h' : H) (log log' : List LogEntry) (part reply : List ℕ)
      (queried : Bool) (gone : ℕ) (cause : Option CloseCause) (new : ConnView) → drop gone reply ++ s.output ≡ []
      → AnswerStep does stops 0 result s h log s' h' log' → PutsOut queried result (view_of s' part queried reply gone cause) new
      → ConnAnswers does stops result (view_of s part queried reply gone cause) h log new h' log'
  answered_as result s s' h h' log log' part reply queried gone cause new sent step out = record {
    server = s';
    step = subst (λ (z : ServerView). AnswerStep does stops 0 result z h log s' h' log') all_sent step;
    out = subst (λ (z : ConnView). PutsOut queried result z new) (taken_over s s' part reply queried gone cause sent) out;
  }
    where
      all_sent : s ≡ quiet s
      all_sent = ap (λ (o : List ℕ). record s { output = o }) (nil_right (drop gone reply) s.output sent)

pub put_plain : (queried : Bool) (result : Result ℕ AnswerRefusal) (f : ConnView) → queried ≡ false → PutsOut queried result f f
put_plain true result f e = absurd (cc)
put_plain false result f e = refl

pub put_refused : (queried : Bool) (refusal : AnswerRefusal) (f : ConnView) → PutsOut queried (Err refusal) f f
put_refused true refusal f = refl
put_refused false refusal f = refl

pub put_reply : (queried : Bool) (n : ℕ) (old new : ConnView) → queried ≡ true → RespellsReply old new
    → PutsOut queried (Ok n) old new
put_reply true n old new e r = r
put_reply false n old new e r = absurd (cc)
