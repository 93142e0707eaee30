-- A server, and one with a greater limit that does as it does.
use Rattle.std.proofs.Common.{◌≡◌, ◌≢◌, ℕ, ◌<◌, ◌≤◌, Bool, true, false, List, [], length, refl, sym, ◌∙◌, ap, subst, arith, Some, ◌⊎◌, inl, inr, Result, Ok, Err}
use Rattle.std.specs.Prelude.{if◌then◌else◌}
use Rattle.std.proofs.lemmas.Option.{none-some}
use Rattle.wire_msg.specs.{Content, Message}
use Rattle.wire_stream.specs.{StandsAt}
use Rattle.wire_stream.specs.declared.reader_state.ReaderState.{ReaderState}
use Rattle.wire_stream.specs.declared.reader_state.ReaderState.TheVariants.{Need, Ready, Bad}
use Rattle.wire_peer.specs.{AnswerStep, Does, LogEntry, ServerView, Stops, TakesBytes, asked_by, chain, closed_for, is_longer, replies}
use Rattle.wire_peer.specs.Chains.{ReplyState}
use Rattle.wire_peer.specs.Replying.{ReplyStep}
use Rattle.wire_peer.specs.ServerAnswers as server_answers
use Rattle.wire_peer.specs.ServerAnswers.{cause_of, closed_at, replies_of}
use Rattle.wire_peer.specs.Servers as server_steps
use Rattle.wire_peer.specs.declared.log.NoReplies.{NoReplies}
use Rattle.wire_peer.specs.declared.log.NoReplies.TheVariants as reasons
use Rattle.wire_peer.specs.declared.server_state.AnswerRefusal.{AnswerRefusal}
use Rattle.wire_peer.specs.declared.server_state.AnswerRefusal.TheVariants as refusals
use Rattle.wire_peer.specs.declared.server_state.ServerCause.{ServerCause}
use Rattle.wire_peer.specs.declared.server_state.ServerCause.TheVariants as causes
use Rattle.wire_peer.specs.declared.server_state.ServerState.{ServerState}
use Rattle.wire_peer.specs.declared.server_state.ServerState.TheVariants.{Open, Closed}
use Rattle.wire_model.specs.Moves.{ServerTakes}
use Rattle.wire_model.proofs.Wider.{bad_wider, longer_wider, message_wider, no_more_wider, open_wider}

-- both are open, or both closed
abbrev pub AsOpen : ServerState → ServerState → Type 0
AsOpen Open Open = Unit {0}
AsOpen Open (Closed b) = ⊥
AsOpen (Closed a) Open = ⊥
AsOpen (Closed a) (Closed b) = Unit {0}

pub as_open : (s t : ServerState) → AsOpen s t → s ≡ Open → t ≡ Open
as_open Open Open a e = refl
as_open Open (Closed b) a e = absurd a
as_open (Closed a) t x e = absurd (let no_ : Closed a ≡ Open = e in cc)

pub as_shut : (s t : ServerState) → AsOpen s t → s ≢ Open → t ≢ Open
as_shut s Open a n e = n (by s a)
  where
    by : (s : ServerState) → AsOpen s Open → s ≡ Open
    by Open a = refl
    by (Closed c) a = absurd a
as_shut s (Closed b) a n e = cc

pub both_open : (s t : ServerState) → s ≡ Open → t ≡ Open → AsOpen s t
both_open Open Open a b = tt
both_open Open (Closed d) a b = absurd (let no_ : Closed d ≡ Open = b in cc)
both_open (Closed c) t a b = absurd (let no_ : Closed c ≡ Open = a in cc)

pub as_ended : (s t : ServerState) (cause : ServerCause) → AsOpen s t
    → AsOpen (closed_for cause s) (closed_for cause t)
as_ended Open Open cause a = tt
as_ended Open (Closed b) cause a = absurd a
as_ended (Closed c) Open cause a = absurd a
as_ended (Closed c) (Closed b) cause a = tt

module _ (wide : ℕ) where
  -- the server with the greater limit, in this state
  abbrev pub widened : ServerView → ServerState → ServerView
  widened s state = record {
    connection = s.connection;
    window = s.window;
    limit = wide;
    held = s.held;
    waiting = s.waiting;
    output = s.output;
    next_id = s.next_id;
    state = state;
  }

  pub record Within (s : ServerView) : Type 0 where
    pub least : 26 ≤ s.limit
    pub most : s.limit ≤ wide

  pub fed_limit : (s : ServerView) (bytes : List ℕ) (found : ReaderState)
      → (server_steps.holding s bytes found).limit ≡ s.limit
  fed_limit s bytes Need = refl
  fed_limit s bytes Ready = refl
  fed_limit s bytes (Bad fault) = refl

  pub within_on : (s s' : ServerView) → s'.limit ≡ s.limit → Within s → Within s'
  within_on s s' e w = record {
    least = subst (λ n. 26 ≤ n) (sym e) w.least;
    most = subst (λ n. n ≤ wide) (sym e) w.most;
  }

  -- ---- bytes are taken

  module _ (s : ServerView) (bytes : List ℕ) (live : s.state ≡ Open) (w : Within s) where
    -- the server with the greater limit took them, in this state
    pub record Took (s' : ServerView) : Type 0 where
      pub state : ServerState
      pub takes : ServerTakes (widened s Open) bytes (widened s' state)
      pub alike : AsOpen s'.state state ⊎ ((s'.state ≢ Open) × (state ≡ Open))

    as_fed : (s' : ServerView) (t : TakesBytes s bytes (length bytes) s') (found : ReaderState)
        → length s.waiting < s.window → StandsAt wide t.bytes found
        → (state : ServerState)
        → widened s' state ≡ server_steps.holding (widened s Open) t.bytes found
        → ServerTakes (widened s Open) bytes (widened s' state)
    as_fed s' t found room stands state e = record {
      is_open = refl;
      has_room = room;
      takes = record {
        bytes = t.bytes;
        found = found;
        fed = record {
          taken = omega arith;
          held = t.fed.held;
          state = stands;
          no_more = no_more_wider s.limit wide w.least w.most t.bytes t.fed.no_more;
          all = λ need. refl;
        };
        is = e;
      };
    }

    pub took : (s' : ServerView) → length s.waiting < s.window
        → (t : TakesBytes s bytes (length bytes) s') → Took s'
    took s' room t = by t.found t.fed.state t.is
      where
        by : (found : ReaderState) → StandsAt s.limit t.bytes found
            → s' ≡ server_steps.holding s t.bytes found → Took s'
        by Need o e = record {
          state = Open;
          takes = as_fed s' t Need room (open_wider s.limit wide w.least w.most t.bytes o) Open
              (ap (λ z. widened z Open) e);
          alike = inl (both_open s'.state Open (ap (λ (z : ServerView). z.state) e ∙ live) refl);
        }
        by Ready m e = record {
          state = Open;
          takes = as_fed s' t Ready room (message_wider s.limit wide w.least w.most t.bytes m) Open
              (ap (λ z. widened z Open) e);
          alike = inl (both_open s'.state Open (ap (λ (z : ServerView). z.state) e ∙ live) refl);
        }
        by (Bad f) bad e =
            let shut : s'.state ≡ Closed (causes.Message f) = ap (λ (z : ServerView). z.state) e in
            elim (bad_wider s.limit wide w.least w.most t.bytes f bad t.fed.no_more) [
              | inl o ↦ record {
                state = Open;
                takes = as_fed s' t Need room o Open (ap (λ z. widened z Open) e);
                alike = inr (
                  (λ is. (let no_ : Closed (causes.Message f) ≡ Open = sym shut ∙ is in
                      cc)),
                  refl,
                );
              }
              | inr g ↦ record {
                state = Closed (causes.Message g.0);
                takes = as_fed s' t (Bad g.0) room g.1 (Closed (causes.Message g.0))
                    (ap (λ z. widened z (Closed (causes.Message g.0))) e);
                alike = inl (subst (λ z. AsOpen z (Closed (causes.Message g.0))) (sym shut) tt);
              }
            ]

  -- ---- a request is answered

  module _ {H : Type 0} (does : Does H) (stops : Stops H) (i : ℕ) (s s' : ServerView)
      (state : ServerState) (h h' : H) (log log' : List LogEntry) (w : Within s)
      (alike : AsOpen s.state state) where
    -- the result under the greater limit
    pub record Answered : Type 0 where
      pub result : Result ℕ AnswerRefusal
      pub state' : ServerState
      pub step : AnswerStep does stops i result (widened s state) h log (widened s' state') h' log'
      pub alike' : AsOpen s'.state state'

    -- none of the replies to a request that wants none is too long
    wants_some : (m : Message) (answers : List Content)
        → is_longer s.limit (replies s.next_id m.id (asked_by m) answers) ≡ true
        → m.flags.more_to_come ≡ false
    wants_some m answers long = by m.flags.more_to_come refl
      where
        by : (b : Bool) → m.flags.more_to_come ≡ b → b ≡ false
        by false e = refl
        by true e = absurd (let no_ : true ≡ false = sym long ∙ ap (λ z. is_longer s.limit
            (if z then [] else chain s.next_id m.id answers)) e in cc)

    closes : (cause : ServerCause) (m : Message) → s.state ≡ Open
        → server_answers.WaitsAt s i m → s' ≡ closed_at s i cause → (why : NoReplies)
        → cause_of why ≡ Some cause
        → ReplyStep does stops s.connection m.id (asked_by m) (Err why) h log (replies_of s) h' log'
        (replies_of s) → Answered
    closes cause m live waits e why is step = by why is step
      where
        so : (other : ServerCause) (why' : NoReplies) → cause_of why' ≡ Some other
            → ReplyStep does stops s.connection m.id (asked_by m) (Err why') h log
            (replies_of (widened s state)) h' log' (replies_of (widened s state)) → Answered
        so other why' is' step' = record {
          result = Err (refusals.NowClosed other);
          state' = Closed other;
          step = (
            as_open s.state state alike live,
            ap (λ z. widened z (Closed other)) e,
            (
              m,
              record { bytes = waits.bytes; at = waits.at; spelled = waits.spelled },
              (why', is', step'),
            ),
          );
          alike' = subst (λ z. AsOpen z (Closed other)) (sym (ap (λ (z : ServerView). z.state) e))
              tt;
        }

        by : (why : NoReplies) → cause_of why ≡ Some cause
            → ReplyStep does stops s.connection m.id (asked_by m) (Err why) h log (replies_of s) h'
            log' (replies_of s) → Answered
        by reasons.NotAsked is x = absurd (none-some cause is)
        by (reasons.Stopped stop) is x = so cause (reasons.Stopped stop) is (x.0, x.1, refl)
        by reasons.NoMemory is x = so cause reasons.NoMemory is (
          x.0,
          x.1,
          x.2,
          longer_wider s.limit wide w.least w.most (replies s.next_id m.id (asked_by m) x.0) x.3,
          refl,
        )
        by reasons.TooLarge is x = too (is_longer wide (replies s.next_id m.id (asked_by m) x.0)) refl
          where
            too : (b : Bool) → is_longer wide (replies s.next_id m.id (asked_by m) x.0) ≡ b
                → Answered
            too true long = so cause reasons.TooLarge is (x.0, x.1, long, refl)
            too false fits = so causes.NoMemory reasons.NoMemory refl
                (x.0, x.1, wants_some m x.0 x.2, fits, refl)

    pub answers : (result : Result ℕ AnswerRefusal)
        → AnswerStep does stops i result s h log s' h' log' → Answered
    answers (Ok n) (live, many, (m, waits, (r, (given, got, short, put), e))) = record {
      result = Ok n;
      state' = state;
      step = (
        as_open s.state state alike live,
        many,
        (
          m,
          record { bytes = waits.bytes; at = waits.at; spelled = waits.spelled },
          (
            record { output = r.output; next = r.next; limit = wide },
            (
              given,
              got,
              longer_wider s.limit wide w.least w.most (replies s.next_id m.id (asked_by m) given)
                  short,
              ap (λ (z : ReplyState). record { output = z.output; next = z.next; limit = wide }) put,
            ),
            ap (λ z. widened z state) e,
          ),
        ),
      );
      alike' = subst (λ z. AsOpen z state) (sym (ap (λ (z : ServerView). z.state) e)) alike;
    }
    answers (Err (refusals.NowClosed cause)) (live, e, (m, waits, (why, is, step))) =
        closes cause m live waits e why is step
    answers (Err refusals.Closed) (shut, e, same, entries) = record {
      result = Err refusals.Closed;
      state' = state;
      step = (as_shut s.state state alike shut, ap (λ z. widened z state) e, same, entries);
      alike' = subst (λ z. AsOpen z state) (sym (ap (λ (z : ServerView). z.state) e)) alike;
    }
    answers (Err refusals.NoSuchRequest) (live, few, e, same, entries) = record {
      result = Err refusals.NoSuchRequest;
      state' = state;
      step = (as_open s.state state alike live, few, ap (λ z. widened z state) e, same, entries);
      alike' = subst (λ z. AsOpen z state) (sym (ap (λ (z : ServerView). z.state) e)) alike;
    }
    answers (Err refusals.OutOfMemory) (live, some, e, same, entries) = record {
      result = Err refusals.OutOfMemory;
      state' = state;
      step = (as_open s.state state alike live, some, ap (λ z. widened z state) e, same, entries);
      alike' = subst (λ z. AsOpen z state) (sym (ap (λ (z : ServerView). z.state) e)) alike;
    }
