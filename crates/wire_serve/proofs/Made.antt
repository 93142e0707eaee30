-- What the entries of one connection are to a log.
use Rattle.std.proofs.Common.{◌≡◌, ℕ, List, [], ◌∷◌, ◌++◌, Option, None, Some, Result, Ok, Err, ap, refl, sym, subst, ◌∙◌, append_assoc, append-nil}
use Rattle.std.proofs.lemmas.List.{append_cancel_left}
use Rattle.std.specs.Prelude.{ℤ}
use Rattle.wire_msg.specs.{Content}
use Rattle.wire_peer.specs.{AnswerStep, Asked, Does, LogEntry, LogStep, RunOf, ServerView, Stops, asked_by, entered}
use Rattle.wire_peer.specs.Replying.{ReplyStep}
use Rattle.wire_peer.specs.ServerAnswers.{cause_of}
use Rattle.wire_peer.specs.Chains.{ReplyState}
use Rattle.wire_peer.specs.declared.log.NoReplies.{NoReplies}
use Rattle.wire_peer.specs.declared.log.NoReplies.TheVariants.{NoMemory, NotAsked, Stopped, TooLarge}
use Rattle.wire_peer.specs.declared.server_state.AnswerRefusal.{AnswerRefusal}
use Rattle.wire_peer.specs.declared.server_state.AnswerRefusal.TheVariants as refusals
use Rattle.wire_peer.proofs.Lemmas.{run_push}
use Rattle.wire_model.specs.Hostile.{entries_of}
use Rattle.wire_model.proofs.Lemmas.{entries_push, entries_skip}

module _ {H : Type 0} (does : Does H) (stops : Stops H) where
  -- Entries of connection c that lead the handler from a state into a state, behind any log.
  pub record Adds (c : ℕ) (h : H) (made : List LogEntry) (h' : H) : Type 0 where
    pub own : (log : List LogEntry) → entries_of c (log ++ made) ≡ entries_of c log ++ made
    pub others : (d : ℕ) → (c ≡ d → ⊥) → (log : List LogEntry) → entries_of d (log ++ made) ≡ entries_of d log
    pub run : (first : H) (asked : List Asked) (log : List LogEntry) → RunOf does stops first asked log h
        → (all : List Asked) × RunOf does stops first all (log ++ made) h'

  pub adds_none : (c : ℕ) (h h' : H) → h' ≡ h → Adds c h [] h'
  adds_none c h h' is = record {
    own = λ log. ap (entries_of c) (append-nil log) ∙ sym (append-nil (entries_of c log));
    others = λ d n log. ap (entries_of d) (append-nil log);
    run = λ first asked log r. (
      asked,
      subst (λ (z : H). RunOf does stops first asked (log ++ []) z) (sym is)
          (subst (λ (l : List LogEntry). RunOf does stops first asked l h) (sym (append-nil log)) r),
    );
  }

  adds_one : (c : ℕ) (h h' : H) (a : Asked) (answers : Option (List Content)) → LogStep does stops h a answers h'
      → Adds c h (entered c a answers ∷ []) h'
  adds_one c h h' a answers step = record {
    own = λ log. entries_push c log (entered c a answers) refl;
    others = λ d n log. entries_skip d log (entered c a answers) n;
    run = λ first asked log r. (
      asked ++ a ∷ [],
      run_push does stops first h h' asked log a (entered c a answers) r refl step,
    );
  }

  pub adds_then : (c : ℕ) (h m h' : H) (made more : List LogEntry) → Adds c h made m → Adds c m more h' → Adds c h (made ++ more) h'
  adds_then c h m h' made more p q = record {
    own = λ log. ap (entries_of c) (sym (append_assoc log made more)) ∙ q.own (log ++ made) ∙ ap (λ (es : List LogEntry). es ++ more) (p.own log)
        ∙ append_assoc (entries_of c log) made more;
    others = λ d n log. ap (entries_of d) (sym (append_assoc log made more)) ∙ q.others d n (log ++ made) ∙ p.others d n log;
    run = λ first asked log r.
        let one = p.run first asked log r in
        let two = q.run first one.0 (log ++ made) one.1 in
        (two.0, subst (λ (l : List LogEntry). RunOf does stops first two.0 l h') (append_assoc log made more) two.1);
  }

  -- the entries that were made are these
  made_is : (log log' made more : List LogEntry) → log' ≡ log ++ made → log' ≡ log ++ more → more ≡ made
  made_is log log' made more p q = append_cancel_left log more made (sym q ∙ p)

  none_made : (c : ℕ) (h h' : H) (log log' made : List LogEntry) → log' ≡ log ++ made → log' ≡ log → h' ≡ h → Adds c h made h'
  none_made c h h' log log' made p q is =
      subst (λ (es : List LogEntry). Adds c h es h') (made_is log log' made [] p (q ∙ sym (append-nil log))) (adds_none c h h' is)

  one_made : (c d : ℕ) (h h' : H) (log log' made : List LogEntry) (a : Asked) (answers : Option (List Content)) → d ≡ c → log' ≡ log ++ made
      → log' ≡ log ++ entered d a answers ∷ [] → LogStep does stops h a answers h' → Adds c h made h'
  one_made c d h h' log log' made a answers is p q step =
      subst (λ (es : List LogEntry). Adds c h es h')
      (ap (λ (k : ℕ). entered k a answers ∷ []) (sym is) ∙ made_is log log' made (entered d a answers ∷ []) p q)
      (adds_one c h h' a answers step)

  closed_made : (c d : ℕ) (id : ℤ) (a : Asked) (why : NoReplies) (h h' : H) (log log' made : List LogEntry) (r : ReplyState) → d ≡ c
      → log' ≡ log ++ made → (cause_of why ≡ None → ⊥) → ReplyStep does stops d id a (Err why) h log r h' log' r → Adds c h made h'
  closed_made c d id a NotAsked h h' log log' made r is p closes x = absurd (closes refl)
  closed_made c d id a (Stopped stop) h h' log log' made r is p closes x = one_made c d h h' log log' made a None is p x.1 (stop, x.0)
  closed_made c d id a TooLarge h h' log log' made r is p closes x =
      one_made c d h h' log log' made a (Some x.0) is p x.1.entry (x.1.answered, x.1.count)
  closed_made c d id a NoMemory h h' log log' made r is p closes x =
      one_made c d h h' log log' made a (Some x.0) is p x.1.entry (x.1.answered, x.1.count)

  pub answer_adds : (result : Result ℕ AnswerRefusal) (c : ℕ) (s s' : ServerView) (h h' : H) (log log' made : List LogEntry) → s.connection ≡ c
      → log' ≡ log ++ made → AnswerStep does stops 0 result s h log s' h' log' → Adds c h made h'
  answer_adds (Ok n) c s s' h h' log log' made is p (opens, count, (m, waits, (r, (answers, got, short, r_is), s_is))) =
      one_made c s.connection h h' log log' made (asked_by m) (Some answers) is p got.entry (got.answered, got.count)
  answer_adds (Err (refusals.NowClosed cause)) c s s' h h' log log' made is p (opens, s_is, (m, waits, (why, closes, step))) =
      closed_made c s.connection m.id (asked_by m) why h h' log log' made _ is p (λ e. absurd (cc (e, closes))) step
  answer_adds (Err refusals.Closed) c s s' h h' log log' made is p (opens, s_is, h_is, log_is) = none_made c h h' log log' made p log_is h_is
  answer_adds (Err refusals.NoSuchRequest) c s s' h h' log log' made is p (opens, few, s_is, h_is, log_is) =
      none_made c h h' log log' made p log_is h_is
  answer_adds (Err refusals.OutOfMemory) c s s' h h' log log' made is p (opens, few, s_is, h_is, log_is) =
      none_made c h h' log log' made p log_is h_is
