-- What a server gives when its server connection answers, and what the server connection puts out.
use Rattle.std.proofs.Common.{◌≡◌, ℕ, ◌≤◌, List, [], ◌∷◌, ◌++◌, length, Bool, true, false, None, Some, Result, Ok, Err, ap, arith, refl, sym, subst, ◌∙◌, append_assoc, append-nil}
use Rattle.std.specs.Prelude.{remove}
use Rattle.wire_msg.specs.{Message}
use Rattle.wire_peer.specs.{AnswerStep, Does, LogEntry, ServerView, Stops, WaitsAt, asked_by, replies, written}
use Rattle.wire_peer.specs.Chains.{ReplyState}
use Rattle.wire_peer.specs.declared.server_state.AnswerRefusal.{AnswerRefusal}
use Rattle.wire_peer.specs.declared.server_state.AnswerRefusal.TheVariants as refusals
use Rattle.wire_serve.specs.ServerConnections.{ConnView, PutsOut, refused, respelled, with_server}
use Rattle.wire_serve.specs.Respelling.{NoRespelling}
use Rattle.wire_serve.specs.declared.cause.CloseCause.{CloseCause}
use Rattle.wire_serve.specs.Owning.{GivenAs, IsGiven, IsOneAnswer, all_put_out, and_as_it_is, and_respelled, last_lost}

none_at : (s : ServerView) (m : Message) → s.waiting ≡ [] → WaitsAt s 0 m → ⊥
none_at s m none w = absurd (cc (none, w.at))

-- of one request that may wait none is left
none_left : (waiting : List (List ℕ)) → length waiting ≤ 1 → remove waiting 0 ≡ []
none_left [] le = refl
none_left (x ∷ []) le = refl
none_left (x ∷ y ∷ waiting) le = absurd (omega (arith, le))

-- a server connection whose server refused to answer
pub put_plain : (queried : Bool) (refusal : AnswerRefusal) (f new : ConnView) → PutsOut queried (Err refusal) f new → new ≡ f
put_plain true refusal f new is = is
put_plain false refusal f new is = is

module _ (given went : List ℕ) (f new : ConnView) (s : ServerView) where
  plain : GivenAs given went → new ≡ with_server f s → IsGiven (given ++ s.output) (went ++ new.output) new
  plain g is = all_put_out (subst (λ (o : List ℕ). GivenAs (given ++ s.output) (went ++ o)) (sym (ap (λ (z : ConnView). z.output) is)) (and_as_it_is s.output g))

  puts : (queried : Bool) (result : Result ℕ AnswerRefusal) → GivenAs given went → ((n : ℕ) → result ≡ Ok n → s.waiting ≡ [])
      → ((n : ℕ) → result ≡ Ok n → IsOneAnswer s.output) → PutsOut queried result (with_server f s) new → IsGiven (given ++ s.output) (went ++ new.output) new
  puts false result g left one is = plain g is
  puts true (Err refusal) g left one is = plain g is
  puts true (Ok n) g left one (respelled reply as_reply is) =
      all_put_out (subst (λ (o : List ℕ). GivenAs (given ++ s.output) (went ++ o)) (sym (ap (λ (z : ConnView). z.output) is)) (and_respelled s.output reply g as_reply))
  puts true (Ok n) g left one (refused cause why is) =
      last_lost s.output cause
      (subst (λ (o : List ℕ). GivenAs given o) (sym (append-nil went) ∙ ap (λ (o : List ℕ). went ++ o) (sym (ap (λ (z : ConnView). z.output) is))) g)
      refl
      (one n refl)
      why
      (ap (λ (z : ConnView). z.cause) is)
      (ap (λ (z : ConnView). z.server.waiting) is ∙ left n refl)

  -- a server connection that closed by itself, and whose server refused to answer
  stays_lost : {before : List ℕ} (lost : List ℕ) (cause : CloseCause) (refusal : AnswerRefusal) → s ≡ f.server → f.server.output ≡ [] → f.output ≡ []
      → GivenAs before (went ++ f.output) → given ≡ before ++ lost → IsOneAnswer lost → NoRespelling lost cause
      → f.cause ≡ Some cause → f.server.waiting ≡ []
      → PutsOut f.queried (Err refusal) (with_server f s) new → IsGiven (given ++ s.output) (went ++ new.output) new
  stays_lost {before} lost cause refusal same none all g is one why own waits out =
      let new_is : new ≡ with_server f s = put_plain f.queried refusal (with_server f s) new out in
      let empty : s.output ≡ [] = ap (λ (z : ServerView). z.output) same ∙ none in
      last_lost lost cause
      (subst (λ (o : List ℕ). GivenAs before (went ++ o)) (all ∙ sym (ap (λ (z : ConnView). z.output) new_is ∙ empty)) g)
      (ap (λ (o : List ℕ). given ++ o) empty ∙ append-nil given ∙ is)
      one
      why
      (ap (λ (z : ConnView). z.cause) new_is ∙ own)
      (ap (λ (z : ConnView). z.server.waiting) new_is ∙ ap (λ (z : ServerView). z.waiting) same ∙ waits)

module _ {H : Type 0} (does : Does H) (stops : Stops H) where
  -- what waits after an answer
  pub left : (result : Result ℕ AnswerRefusal) (s s' : ServerView) (h h' : H) (log log' : List LogEntry) → length s.waiting ≤ 1
      → AnswerStep does stops 0 result s h log s' h' log' → (length s'.waiting ≤ 1) × ((n : ℕ) → result ≡ Ok n → s'.waiting ≡ [])
  left (Ok n) s s' h h' log log' one (opens, count, (m, waits, (r, step, is))) =
      let none : s'.waiting ≡ [] = ap (λ (z : ServerView). z.waiting) is ∙ none_left s.waiting one in
      (omega (arith, ap length none), λ k e. none)
  left (Err (refusals.NowClosed cause)) s s' h h' log log' one (opens, is, found) =
      let none : s'.waiting ≡ [] = ap (λ (z : ServerView). z.waiting) is ∙ none_left s.waiting one in
      (omega (arith, ap length none), λ k e. none)
  left (Err refusals.Closed) s s' h h' log log' one (opens, is, h_is, log_is) =
      (subst (λ (z : ServerView). length z.waiting ≤ 1) (sym is) one, λ k e. absurd (cc (e)))
  left (Err refusals.NoSuchRequest) s s' h h' log log' one (opens, few, is, h_is, log_is) =
      (subst (λ (z : ServerView). length z.waiting ≤ 1) (sym is) one, λ k e. absurd (cc (e)))
  left (Err refusals.OutOfMemory) s s' h h' log log' one (opens, few, is, h_is, log_is) =
      (subst (λ (z : ServerView). length z.waiting ≤ 1) (sym is) one, λ k e. absurd (cc (e)))

  -- what the server of a server connection gave by one answer
  gave : (result : Result ℕ AnswerRefusal) (s s' : ServerView) (h h' : H) (log log' : List LogEntry) → s.output ≡ []
      → AnswerStep does stops 0 result s h log s' h' log' → (n : ℕ) → result ≡ Ok n → IsOneAnswer s'.output
  gave (Ok n) s s' h h' log log' none (opens, count, (m, waits, (r, (answers, found, fits, r_is), is))) k e = (
    s.next_id,
    m,
    answers,
    ap (λ (z : ServerView). z.output) is ∙ ap (λ (z : ReplyState). z.output) r_is
        ∙ ap (λ (o : List ℕ). o ++ written (replies s.next_id m.id (asked_by m) answers)) none,
  )
  gave (Err refusal) s s' h h' log log' none step k e = absurd (cc (e))

  lost_on : (result : Result ℕ AnswerRefusal) (given went : List ℕ) {before : List ℕ} (lost : List ℕ) (gone : CloseCause) (f new : ConnView) (s : ServerView) (h h' : H)
      (log log' : List LogEntry) → f.server.output ≡ [] → f.output ≡ [] → AnswerStep does stops 0 result f.server h log s h' log'
      → PutsOut f.queried result (with_server f s) new → GivenAs before (went ++ f.output) → given ≡ before ++ lost → IsOneAnswer lost
      → NoRespelling lost gone → f.cause ≡ Some gone → f.server.waiting ≡ [] → IsGiven (given ++ s.output) (went ++ new.output) new
  lost_on (Ok n) given went lost gone f new s h h' log log' none all (opens, count, (m, waits, found)) out g is one why own empty =
      absurd (none_at f.server m empty waits)
  lost_on (Err (refusals.NowClosed cause)) given went lost gone f new s h h' log log' none all (opens, s_is, (m, waits, found)) out g is one why own empty =
      absurd (none_at f.server m empty waits)
  lost_on (Err refusals.Closed) given went lost gone f new s h h' log log' none all (opens, s_is, h_is, log_is) out g is one why own empty =
      stays_lost given went f new s lost gone refusals.Closed s_is none all g is one why own empty out
  lost_on (Err refusals.NoSuchRequest) given went lost gone f new s h h' log log' none all (opens, few, s_is, h_is, log_is) out g is one why own empty =
      stays_lost given went f new s lost gone refusals.NoSuchRequest s_is none all g is one why own empty out
  lost_on (Err refusals.OutOfMemory) given went lost gone f new s h h' log log' none all (opens, few, s_is, h_is, log_is) out g is one why own empty =
      stays_lost given went f new s lost gone refusals.OutOfMemory s_is none all g is one why own empty out

  pub gives : (result : Result ℕ AnswerRefusal) (given went : List ℕ) (f new : ConnView) (s : ServerView) (h h' : H) (log log' : List LogEntry)
      → f.server.output ≡ [] → f.output ≡ [] → length f.server.waiting ≤ 1 → AnswerStep does stops 0 result f.server h log s h' log'
      → PutsOut f.queried result (with_server f s) new → IsGiven given (went ++ f.output) f → IsGiven (given ++ s.output) (went ++ new.output) new
  gives result given went f new s h h' log log' none all one step out (all_put_out g) =
      puts given went f new s f.queried result
      (subst (λ (o : List ℕ). GivenAs given o) (ap (λ (o : List ℕ). went ++ o) all ∙ append-nil went) g)
      (left result f.server s h h' log log' one step).1 (gave result f.server s h h' log log' none step) out
  gives result given went f new s h h' log log' none all one step out (last_lost lost gone g is lost_one why own empty) =
      lost_on result given went lost gone f new s h h' log log' none all step out g is lost_one why own empty

-- ---- other acts

-- what waits to be sent is sent
pub goes : (given went bytes rest : List ℕ) (f : ConnView) → f.output ≡ bytes ++ rest → IsGiven given (went ++ f.output) f
    → IsGiven given ((went ++ bytes) ++ rest) (record f { output = rest })
goes given went bytes rest f first (all_put_out g) =
    all_put_out (subst (λ (o : List ℕ). GivenAs given o) (ap (λ (o : List ℕ). went ++ o) first ∙ sym (append_assoc went bytes rest)) g)
goes given went bytes rest f first (last_lost {before} lost cause g is one why own empty) =
    last_lost lost cause (subst (λ (o : List ℕ). GivenAs before o) (ap (λ (o : List ℕ). went ++ o) first ∙ sym (append_assoc went bytes rest)) g) is one why own empty

-- an open server connection puts nothing out
pub keeps_out : (given out : List ℕ) (old new : ConnView) → old.cause ≡ None → IsGiven given out old → IsGiven given out new
keeps_out given out old new none (all_put_out g) = all_put_out g
keeps_out given out old new none (last_lost lost cause g is one why own empty) = absurd (cc (none, own))
