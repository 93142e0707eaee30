-- What one server does changes the servers of the pairs alone as it does beside strangers.
use Rattle.std.proofs.Common.{◌≡◌, ℕ, Bool, true, false, List, [], ◌∷◌, ◌++◌, length, refl, sym, ◌∙◌, ap, subst, Some, None, ◌⊎◌, inl, inr, Result, Ok, Err}
use Rattle.std.proofs.lemmas.Option.{none-some, same_Some}
use Rattle.wire_peer.specs.{AnswerStep, Does, LogEntry, ServerView, Stops, asked_by, entered}
use Rattle.wire_peer.specs.Replying.{ReplyStep}
use Rattle.wire_peer.specs.ServerAnswers.{cause_of, replies_of}
use Rattle.wire_peer.specs.declared.log.NoReplies.{NoReplies}
use Rattle.wire_peer.specs.declared.log.NoReplies.TheVariants as reasons
use Rattle.wire_peer.specs.declared.server_state.AnswerRefusal.{AnswerRefusal}
use Rattle.wire_peer.specs.declared.server_state.AnswerRefusal.TheVariants as refusals
use Rattle.wire_model.specs.Happening.{AreContents}
use Rattle.wire_model.proofs.Lists.{same_or_not}
use Rattle.wire_model.specs.Owners.{Answers, EndsUp, SendsDown, ServerAct, ServerDoes, ServerEnds, ServersDo, TakesUp, sent_down_by, server_at, server_set, taken_up_by}
use Rattle.wire_model.specs.Deeds.{Arrive, AtServer, Deed}
use Rattle.wire_model.specs.Strangers.{Strayed, does_beside, log_beside, none, once_more, stops_beside}
use Rattle.wire_model.proofs.Asking.{asking, fed_connection}
use Rattle.wire_model.proofs.Fits.{server_set-other, server_set-same}
use Rattle.wire_model.proofs.LogBeside.{beside_push, beside_skip, contents_beside, true_is}
use Rattle.wire_model.proofs.WiderActs.{arrive_server}

module _ (H : Type 0) (does : Does H) (stops : Stops H) (strange : ℕ → Bool) where
  abbrev D : Does H
  D = does_beside does stops

  abbrev S : Stops H
  S = stops_beside does stops

  -- the servers, and the pairs' servers alone
  pub record Alike (old old' : ServerEnds H) : Type 0 where
    pub same : (c : ℕ) → strange c ≡ false → server_at old'.servers c ≡ server_at old.servers c
    pub log : old'.log ≡ log_beside strange old.log
    pub strayed : Strayed does stops old'.handler old.handler
    pub conns : (c : ℕ) (s : ServerView) → server_at old.servers c ≡ Some s → s.connection ≡ c

  -- ---- one server is changed

  conns_set : (old mid : ServerEnds H) (c : ℕ) (s s' : ServerView)
      → ((d : ℕ) (o : ServerView) → server_at old.servers d ≡ Some o → o.connection ≡ d)
      → server_at old.servers c ≡ Some s → s'.connection ≡ s.connection
      → mid.servers ≡ server_set old.servers c s' → (d : ℕ) (o : ServerView)
      → server_at mid.servers d ≡ Some o → o.connection ≡ d
  conns_set old mid c s s' conns at same after d o is = elim (same_or_not d c) [
    | inl e ↦
        let here : s' ≡ o = same_Some s' o (sym (server_set-same old.servers c s s' at)
        ∙ ap (server_at (server_set old.servers c s')) (sym e)
        ∙ sym (ap (λ ss. server_at ss d) after) ∙ is) in
        ap (λ (z : ServerView). z.connection) (sym here) ∙ same ∙ conns c s at ∙ sym e
    | inr n ↦ conns d o (sym (ap (λ ss. server_at ss d) after
        ∙ server_set-other old.servers c d s' n) ∙ is)
  ]

  same_set : (old old' mid : ServerEnds H) (c : ℕ) (s s' : ServerView)
      → ((d : ℕ) → strange d ≡ false → server_at old'.servers d ≡ server_at old.servers d)
      → server_at old.servers c ≡ Some s → server_at old'.servers c ≡ Some s
      → mid.servers ≡ server_set old.servers c s' → (d : ℕ) → strange d ≡ false
      → server_at (server_set old'.servers c s') d ≡ server_at mid.servers d
  same_set old old' mid c s s' same at at' after d n = elim (same_or_not d c) [
    | inl e ↦
        ap (server_at (server_set old'.servers c s')) e
        ∙ server_set-same old'.servers c s s' at'
        ∙ sym (server_set-same old.servers c s s' at)
        ∙ ap (server_at (server_set old.servers c s')) (sym e)
        ∙ sym (ap (λ ss. server_at ss d) after)
    | inr far ↦
        server_set-other old'.servers c d s' far ∙ same d n
        ∙ sym (server_set-other old.servers c d s' far) ∙ sym (ap (λ ss. server_at ss d) after)
  ]

  -- ---- a pair's server does

  pub record Goes (c : ℕ) (act : ServerAct) (mid old' : ServerEnds H) : Type 0 where
    pub act' : ServerAct
    pub mid' : ServerEnds H
    pub does_ : ServersDo D S c act' old' mid'
    pub alike : Alike mid mid'
    pub taken : taken_up_by act' ≡ taken_up_by act
    pub sent : sent_down_by act' ≡ sent_down_by act
    pub arrive : (ds ds' : List Deed)
        → ((up down : ℕ → List ℕ) → Arrive up down ds → Arrive up down ds')
        → (up down : ℕ → List ℕ) → Arrive up down (AtServer c act ∷ ds)
        → Arrive up down (AtServer c act' ∷ ds')

  -- neither the log nor the handler is changed
  quietly : (c : ℕ) (act : ServerAct) (old old' mid : ServerEnds H) (s s' : ServerView)
      → strange c ≡ false → Alike old old' → server_at old.servers c ≡ Some s
      → mid.servers ≡ server_set old.servers c s' → s'.connection ≡ s.connection
      → mid.log ≡ old.log → mid.handler ≡ old.handler
      → ServerDoes D S act s old'.log old'.handler s' old'.log old'.handler
      → Goes c act mid old'
  quietly c act old old' mid s s' n a at after conn log handler does' = record {
    act' = act;
    mid' = record {
      servers = server_set old'.servers c s';
      log = old'.log;
      handler = old'.handler;
    };
    does_ = record { s = s; at = at'; s' = s'; does_ = does'; after = refl };
    alike = record {
      same = same_set old old' mid c s s' a.same at at' after;
      log = a.log ∙ ap (log_beside strange) (sym log);
      strayed = subst (Strayed does stops old'.handler) (sym handler) a.strayed;
      conns = conns_set old mid c s s' a.conns at conn after;
    };
    taken = refl;
    sent = refl;
    arrive = arrive_server c act;
  }
    where
      at' : server_at old'.servers c ≡ Some s
      at' = a.same c n ∙ at

  -- an answer, after what strangers asked
  record Answered (i : ℕ) (s s' : ServerView) (h' : H) (log log' : List LogEntry) (h0 : H)
      (log0 : List LogEntry) : Type 0 where
    result : Result ℕ AnswerRefusal
    handler : H
    entries : List LogEntry
    step : AnswerStep D S i result s h0 log0 s' handler entries
    strayed : Strayed does stops handler h'
    more : ((log' ≡ log) × (entries ≡ log0)) ⊎ ((en : LogEntry) × (log' ≡ log ++ en ∷ [])
        × (entries ≡ log0 ++ en ∷ []) × (en.connection ≡ s.connection))

  module _ (i : ℕ) (s s' : ServerView) (h h' h0 : H) (log log' log0 : List LogEntry)
      (strayed : Strayed does stops h0 h) where
    not_done : (result : Result ℕ AnswerRefusal)
        → AnswerStep D S i result s h0 log0 s' h0 log0 → h' ≡ h → log' ≡ log
        → Answered i s s' h' log log' h0 log0
    not_done result step same_h same_log = record {
      result = result;
      handler = h0;
      entries = log0;
      step = step;
      strayed = subst (Strayed does stops h0) (sym same_h) strayed;
      more = inl (same_log, refl);
    }

    answered : (result : Result ℕ AnswerRefusal)
        → AnswerStep does stops i result s h log s' h' log'
        → Answered i s s' h' log log' h0 log0
    answered (Ok n) (live, many, (m, waits, (r, (answers, got, short, put), e))) = record {
      result = Ok (length log0);
      handler = h';
      entries = log0 ++ entered s.connection (asked_by m) (Some answers) ∷ [];
      step = (
        live,
        refl,
        (
          m,
          waits,
          (
            r,
            (
              answers,
              record {
                answered = (h, strayed, got.answered);
                count = got.count;
                entry = refl;
              },
              short,
              put,
            ),
            e,
          ),
        ),
      );
      strayed = none;
      more = inr (entered s.connection (asked_by m) (Some answers), got.entry, refl, refl);
    }
    answered (Err (refusals.NowClosed cause)) (live, e, (m, waits, (why, is, step))) =
        by why is step
      where
        by : (why : NoReplies) → cause_of why ≡ Some cause
            → ReplyStep does stops s.connection m.id (asked_by m) (Err why) h log (replies_of s) h'
            log' (replies_of s)
            → Answered i s s' h' log log' h0 log0
        by reasons.NotAsked is x = absurd (none-some cause is)
        by (reasons.Stopped stop) is x = record {
          result = Err (refusals.NowClosed cause);
          handler = h';
          entries = log0 ++ entered s.connection (asked_by m) None ∷ [];
          step = (
            live,
            e,
            (m, waits, (reasons.Stopped stop, is, ((h, strayed, x.0), refl, refl))),
          );
          strayed = none;
          more = inr (entered s.connection (asked_by m) None, x.1, refl, refl);
        }
        by reasons.TooLarge is x = record {
          result = Err (refusals.NowClosed cause);
          handler = h';
          entries = log0 ++ entered s.connection (asked_by m) (Some x.0) ∷ [];
          step = (
            live,
            e,
            (
              m,
              waits,
              (
                reasons.TooLarge,
                is,
                (
                  x.0,
                  record {
                    answered = (h, strayed, x.1.answered);
                    count = x.1.count;
                    entry = refl;
                  },
                  x.2,
                  refl,
                ),
              ),
            ),
          );
          strayed = none;
          more = inr (entered s.connection (asked_by m) (Some x.0), x.1.entry, refl, refl);
        }
        by reasons.NoMemory is x = record {
          result = Err (refusals.NowClosed cause);
          handler = h';
          entries = log0 ++ entered s.connection (asked_by m) (Some x.0) ∷ [];
          step = (
            live,
            e,
            (
              m,
              waits,
              (
                reasons.NoMemory,
                is,
                (
                  x.0,
                  record {
                    answered = (h, strayed, x.1.answered);
                    count = x.1.count;
                    entry = refl;
                  },
                  x.2,
                  x.3,
                  refl,
                ),
              ),
            ),
          );
          strayed = none;
          more = inr (entered s.connection (asked_by m) (Some x.0), x.1.entry, refl, refl);
        }
    answered (Err refusals.Closed) x =
        not_done (Err refusals.Closed) (x.0, x.1, refl, refl) x.2 x.3
    answered (Err refusals.NoSuchRequest) x =
        not_done (Err refusals.NoSuchRequest) (x.0, x.1, x.2, refl, refl) x.3 x.4
    answered (Err refusals.OutOfMemory) x =
        not_done (Err refusals.OutOfMemory) (x.0, x.1, x.2, refl, refl) x.3 x.4

  -- what a server does leaves it the number of its connection
  kept_connection : (act : ServerAct) (s s' : ServerView) (log log' : List LogEntry) (h h' : H)
      → ServerDoes does stops act s log h s' log' h' → s'.connection ≡ s.connection
  kept_connection (TakesUp bytes) s s' log log' h h' d =
      ap (λ (z : ServerView). z.connection) d.0.takes.is
      ∙ fed_connection s d.0.takes.bytes d.0.takes.found
  kept_connection (Answers i result) s s' log log' h h' d =
      elim (asking does stops i result s s' h h' log log' d.0) [
        | inl same ↦ ap (λ (z : ServerView). z.connection) same.server
        | inr was ↦ was.connection
      ]
  kept_connection (SendsDown bytes) s s' log log' h h' d =
      ap (λ (z : ServerView). z.connection) d.0.2
  kept_connection EndsUp s s' log log' h h' d = ap (λ (z : ServerView). z.connection) d.0

  goes_answers : (c i : ℕ) (result : Result ℕ AnswerRefusal) (old old' mid : ServerEnds H)
      → strange c ≡ false → Alike old old' → ServersDo does stops c (Answers i result) old mid
      → Goes c (Answers i result) mid old'
  goes_answers c i result old old' mid n al a = record {
    act' = Answers i w.result;
    mid' = record {
      servers = server_set old'.servers c a.s';
      log = w.entries;
      handler = w.handler;
    };
    does_ = record {
      s = a.s;
      at = at';
      s' = a.s';
      does_ = (
        w.step,
        subst AreContents (sym log_is) (contents_beside strange mid.log a.does_.1),
      );
      after = refl;
    };
    alike = record {
      same = same_set old old' mid c a.s a.s' al.same a.at at' a.after;
      log = log_is;
      strayed = w.strayed;
      conns = conns_set old mid c a.s a.s' al.conns a.at
          (kept_connection (Answers i result) a.s a.s' old.log mid.log old.handler mid.handler
          a.does_) a.after;
    };
    taken = refl;
    sent = refl;
    arrive = λ ds ds' f up down x. f up down x;
  }
    where
      at' : server_at old'.servers c ≡ Some a.s
      at' = al.same c n ∙ a.at

      w : Answered i a.s a.s' mid.handler old.log mid.log old'.handler old'.log
      w = answered i a.s a.s' old.handler mid.handler old'.handler old.log mid.log old'.log
          al.strayed result a.does_.0

      log_is : w.entries ≡ log_beside strange mid.log
      log_is = elim w.more [
        | inl same ↦ same.1 ∙ al.log ∙ ap (log_beside strange) (sym same.0)
        | inr one ↦
            one.2 ∙ ap (λ z. z ++ one.0 ∷ []) al.log
            ∙ sym (beside_push strange old.log one.0
            (ap strange (one.3 ∙ al.conns c a.s a.at) ∙ n))
            ∙ ap (log_beside strange) (sym one.1)
      ]

  pub goes : (c : ℕ) (act : ServerAct) (old old' mid : ServerEnds H) → strange c ≡ false
      → Alike old old' → ServersDo does stops c act old mid → Goes c act mid old'
  goes c (TakesUp bytes) old old' mid n al a =
      quietly c (TakesUp bytes) old old' mid a.s a.s' n al a.at a.after
      (kept_connection (TakesUp bytes) a.s a.s' old.log mid.log old.handler mid.handler a.does_)
      a.does_.1 a.does_.2 (a.does_.0, refl, refl)
  goes c (Answers i result) old old' mid n al a = goes_answers c i result old old' mid n al a
  goes c (SendsDown bytes) old old' mid n al a =
      quietly c (SendsDown bytes) old old' mid a.s a.s' n al a.at a.after
      (kept_connection (SendsDown bytes) a.s a.s' old.log mid.log old.handler mid.handler a.does_)
      a.does_.1 a.does_.2 (a.does_.0, refl, refl)
  goes c EndsUp old old' mid n al a =
      quietly c EndsUp old old' mid a.s a.s' n al a.at a.after
      (kept_connection EndsUp a.s a.s' old.log mid.log old.handler mid.handler a.does_)
      a.does_.1 a.does_.2 (a.does_.0, refl, refl)

  -- ---- a stranger's server does

  abbrev Same : ServerEnds H → ServerEnds H → Type 0
  Same old mid = (mid.log ≡ old.log) × (mid.handler ≡ old.handler)

  pub strays : (c : ℕ) (act : ServerAct) (old old' mid : ServerEnds H) → strange c ≡ true
      → Alike old old' → ServersDo does stops c act old mid → Alike mid old'
  strays c act old old' mid strange_c al a = by act a.does_
    where
      far : (d : ℕ) → strange d ≡ false → d ≡ c → ⊥
      far d n e = true_is (strange c) strange_c (ap strange (sym e) ∙ n)

      alike_so : old'.log ≡ log_beside strange mid.log → Strayed does stops old'.handler mid.handler
          → a.s'.connection ≡ a.s.connection → Alike mid old'
      alike_so log strayed conn = record {
        same = λ d n. al.same d n ∙ sym (server_set-other old.servers c d a.s' (far d n))
            ∙ sym (ap (λ ss. server_at ss d) a.after);
        log = log;
        strayed = strayed;
        conns = conns_set old mid c a.s a.s' al.conns a.at conn a.after;
      }

      still : mid.log ≡ old.log → mid.handler ≡ old.handler → a.s'.connection ≡ a.s.connection
          → Alike mid old'
      still log handler conn =
          alike_so (al.log ∙ ap (log_beside strange) (sym log))
          (subst (Strayed does stops old'.handler) (sym handler) al.strayed) conn

      by : (act : ServerAct)
          → ServerDoes does stops act a.s old.log old.handler a.s' mid.log mid.handler
          → Alike mid old'
      by (TakesUp bytes) d = still d.1 d.2
          (kept_connection (TakesUp bytes) a.s a.s' old.log mid.log old.handler mid.handler d)
      by (SendsDown bytes) d = still d.1 d.2
          (kept_connection (SendsDown bytes) a.s a.s' old.log mid.log old.handler mid.handler d)
      by EndsUp d = still d.1 d.2
          (kept_connection EndsUp a.s a.s' old.log mid.log old.handler mid.handler d)
      by (Answers i result) d =
          elim (asking does stops i result a.s a.s' old.handler mid.handler old.log mid.log d.0) [
            | inl same ↦ still same.entries same.handler
                (ap (λ (z : ServerView). z.connection) same.server)
            | inr was ↦ alike_so (al.log
                ∙ sym (beside_skip strange old.log (entered a.s.connection (asked_by was.m)
                was.answers) (ap strange (al.conns c a.s a.at) ∙ strange_c))
                ∙ ap (log_beside strange) (sym was.entry))
                (once_more al.strayed (asked_by was.m) was.answers was.step) was.connection
          ]
