-- What the steps of a slot are.
use Rattle.std.proofs.Common.{◌≡◌, ◌≢◌, ℕ, zero, suc, ◌<◌, ◌≤◌, List, [], ◌∷◌, ◌++◌, length, take, drop, Option, Some, None, Result, Ok, Err, inr, Bool, true, ap, arith, refl, sym, subst, ◌∙◌, append-nil, take-append-drop}
use Rattle.std.proofs.lemmas.Map.Views.{exact_unsigned_eq}
use Rattle.std.specs.Bool.{◌==◌}
use Rattle.std.specs.Io.KnownBytes.{Appends, Keeps}
use Rattle.wire_stream.specs.{Rose}
use Rattle.wire_peer.specs.{AnswerStep, Does, LogEntry, ServerView, Stops, log_of}
use Rattle.wire_peer.specs.declared.log.Logged.{Logged}
use Rattle.wire_peer.specs.declared.log.NoReplies.TheVariants.{NotAsked, Stopped, TooLarge, NoMemory}
use Rattle.wire_peer.specs.declared.server_state.AnswerRefusal.{AnswerRefusal}
use Rattle.wire_peer.specs.declared.server_state.AnswerRefusal.TheVariants as refusals
use Rattle.wire_peer.specs.declared.server_state.ServerState.{ServerState}
use Rattle.wire_peer.specs.declared.server_state.ServerState.TheVariants as servers
use Rattle.wire_serve.specs.ServerConnections.{ConnAnswers, ConnTakes, ConnView, IsReady, ended_conn, state_by, state_of}
use Rattle.wire_serve.specs.declared.cause.CloseCause.{CloseCause}
use Rattle.wire_serve.specs.declared.cause.ConnState.TheVariants as conn_states
use Rattle.wire_serve.specs.declared.turned.Leave.TheVariants as leaves
use Rattle.wire_serve.specs.declared.turned.Turned.{Turned}
use Rattle.wire_serve.specs.declared.turned.Turned.TheVariants as turns
use Rattle.wire_serve.specs.Slots.{Answers, Ends, MovesAs, Proceeds, Receives, Sends, SetsGate, SlotAct, SlotMoves, SlotSeen, StandsAs, Takes, Tells, TurnedAs, Turns}
use Rattle.wire_serve.proofs.Runs.{one_act}

take_some : (n : ℕ) (xs : List ℕ) → 0 < n → xs ≢ [] → take n xs ≢ []
take_some zero xs lt some is = omega (arith, lt)
take_some (suc n) [] lt some is = some refl
take_some (suc n) (x ∷ xs) lt some is = absurd (cc)

not_zero : (n : ℕ) → n ≢ 0 → 0 < n
not_zero zero some = absurd (some refl)
not_zero (suc n) some = omega arith

kept_none : (a b : Option (List ℕ)) → Keeps a b → Appends a b []
kept_none None b k = tt
kept_none (Some x) None k = absurd k
kept_none (Some x) (Some y) k = k ∙ sym (append-nil x)

-- an open server connection has no cause, and its server is open
pub opens : (own : Option CloseCause) (state : ServerState) → state_by own state ≡ conn_states.Open → (own ≡ None) × (state ≡ servers.Open)
opens (Some cause) state is = absurd (cc)
opens None (servers.Closed cause) is = absurd (cc)
opens None servers.Open is = (refl, refl)

pub nil_by : {X : Type 0} (xs : List X) → length xs ≤ 0 → xs ≡ []
nil_by [] le = refl
nil_by (x ∷ xs) le = absurd (omega (arith, le))

pub some_length : (xs : List ℕ) → xs ≢ [] → 0 < length xs
some_length [] some = absurd (some refl)
some_length (x ∷ xs) some = omega arith

pub empty_by : (b : Bool) (xs ys : List ℕ) → b ≡ (length ys == 0) → b ≡ true → ys ≡ xs → xs ≡ []
empty_by b xs ys is holds same =
    sym same ∙ nil_by ys (omega (arith, exact_unsigned_eq (length ys) 0 (sym is ∙ holds)))

-- what a server connection came to that stands like this
pub stands_turned : {L : Type 0} (turned : Turned) (act : SlotAct) (s : SlotSeen L) → StandsAs turned s.conn → Proceeds act → TurnedAs turned 1 (act ∷ []) s
stands_turned turns.Again act s stands proceeds = (refl, (proceeds, tt))
stands_turned turns.Waits act s stands proceeds = absurd stands
stands_turned (turns.Over (leaves.Closed cause)) act s stands proceeds = (stands, (proceeds, tt))
stands_turned (turns.Over (leaves.Link fault)) act s stands proceeds = absurd stands
stands_turned (turns.Over leaves.OutOfMemory) act s stands proceeds = absurd stands

module _ {L : Type 0} (t : Tells L) where
  stands_moves : (turned : Turned) (act : SlotAct) (old new : SlotSeen L) → SlotMoves t act old new → Proceeds act
      → StandsAs turned new.conn → MovesAs t turned old new
  stands_moves turns.Again act old new m proceeds s = (act, m, proceeds)
  stands_moves turns.Waits act old new m proceeds s = absurd s
  stands_moves (turns.Over (leaves.Closed cause)) act old new m proceeds s = (act, m, proceeds, s)
  stands_moves (turns.Over (leaves.Link fault)) act old new m proceeds s = absurd s
  stands_moves (turns.Over leaves.OutOfMemory) act old new m proceeds s = absurd s

  abbrev slot : ConnView → L → List ℕ → SlotSeen L
  slot conn link inlet = record { conn = conn; link = link; inlet = inlet }

  pub sends : (f f' : ConnView) (link link' : L) (inlet : List ℕ) (n : ℕ) → f.output ≢ [] → n ≢ 0
      → Appends (t.sent link) (t.sent link') (take n f.output) → Keeps (t.received link) (t.received link')
      → f' ≡ record f { output = drop n f.output } → SlotMoves t (Sends (take n f.output)) (slot f link inlet) (slot f' link' inlet)
  sends f f' link link' inlet n some more sent kept is = record {
    some = take_some n f.output (not_zero n more) some;
    rest = drop n f.output;
    first = sym (take-append-drop n f.output);
    over = record { received = kept_none (t.received link) (t.received link') kept; sent = sent };
    conn = is;
    inlet = refl;
  }

  pub idles : (f : ConnView) (link link' : L) (inlet : List ℕ) → Keeps (t.received link) (t.received link') → Keeps (t.sent link) (t.sent link')
      → SlotMoves t SetsGate (slot f link inlet) (slot f link' inlet)
  idles f link link' inlet received sent = record {
    over = record { received = kept_none (t.received link) (t.received link') received; sent = kept_none (t.sent link) (t.sent link') sent };
    conn = refl;
    inlet = refl;
  }

  pub takes : (turned : Turned) (f f' : ConnView) (link : L) (inlet inlet' : List ℕ) (n : ℕ) → IsReady f → inlet ≢ [] → 0 < n
      → inlet' ≡ drop n inlet → ConnTakes f (take n inlet) f' → StandsAs turned f'
      → MovesAs t turned (slot f link inlet) (slot f' link inlet')
  takes turned f f' link inlet inlet' n ready some more is took stands =
      stands_moves turned (Takes (take n inlet)) (slot f link inlet) (slot f' link inlet') (record {
        ready = ready;
        some = take_some n inlet more some;
        first = sym (take-append-drop n inlet) ∙ ap (λ (x : List ℕ). take n inlet ++ x) (sym is);
        takes = took;
        link = refl;
      }) tt stands

  came_is : (inlet inlet' more : List ℕ) → inlet ≡ [] → inlet' ≡ inlet ++ more → more ≡ inlet'
  came_is inlet inlet' more none is = sym (is ∙ ap (λ (x : List ℕ). x ++ more) none)

  pub receives : (f : ConnView) (link link' : L) (inlet inlet' more : List ℕ) → IsReady f → inlet ≡ [] → inlet' ≢ []
      → Appends (t.received link) (t.received link') more → inlet' ≡ inlet ++ more → Keeps (t.sent link) (t.sent link')
      → SlotMoves t (Receives inlet') (slot f link inlet) (slot f link' inlet')
  receives f link link' inlet inlet' more ready none some came is kept = record {
    ready = ready;
    none_left = none;
    some = some;
    over = record {
      received = subst (λ (x : List ℕ). Appends (t.received link) (t.received link') x) (came_is inlet inlet' more none is) came;
      sent = kept_none (t.sent link) (t.sent link') kept;
    };
    conn = refl;
    inlet = refl;
  }

  pub ends : (turned : Turned) (f f' : ConnView) (link link' : L) (inlet inlet' more : List ℕ) → IsReady f → inlet ≡ [] → inlet' ≡ []
      → Rose (t.ends link) (t.ends link') → Appends (t.received link) (t.received link') more → inlet' ≡ inlet ++ more
      → Keeps (t.sent link) (t.sent link') → f' ≡ ended_conn f → StandsAs turned f'
      → MovesAs t turned (slot f link inlet) (slot f' link' inlet')
  ends turned f f' link link' inlet inlet' more ready none gone told came is kept ended stands =
      stands_moves turned Ends (slot f link inlet) (slot f' link' inlet') (record {
        ready = ready;
        none_left = none;
        told = told;
        over = record {
          received = subst (λ (x : List ℕ). Appends (t.received link) (t.received link') x) (came_is inlet inlet' more none is ∙ gone) came;
          sent = kept_none (t.sent link) (t.sent link') kept;
        };
        conn = ended;
        inlet = gone;
      }) tt stands

  module _ {H : Type 0} (does : Does H) (stops : Stops H) where
    -- the entries that an answer made
    made_of : (result : Result ℕ AnswerRefusal) (s s' : ServerView) (h h' : H) (log log' : List LogEntry)
        → AnswerStep does stops 0 result s h log s' h' log' → (made : List LogEntry) × (log' ≡ log ++ made)
    made_of (Ok n) s s' h h' log log' (is_open, count, (m, waits, (r, (given, answered, short, r_is), s_is))) = (_, answered.entry)
    made_of (Err (refusals.NowClosed cause)) s s' h h' log log' (is_open, s_is, (m, waits, (NotAsked, closes, (h_is, log_is, r_is)))) = absurd (cc)
    made_of (Err (refusals.NowClosed cause)) s s' h h' log log' (is_open, s_is, (m, waits, (Stopped stop, closes, (stopped, log_is, r_is)))) = (_, log_is)
    made_of (Err (refusals.NowClosed cause)) s s' h h' log log' (is_open, s_is, (m, waits, (TooLarge, closes, (given, answered, long, r_is)))) = (_, answered.entry)
    made_of (Err (refusals.NowClosed cause)) s s' h h' log log' (is_open, s_is, (m, waits, (NoMemory, closes, (given, answered, loud, short, r_is)))) = (_, answered.entry)
    made_of (Err refusals.Closed) s s' h h' log log' (is_open, s_is, h_is, log_is) = ([], log_is ∙ sym (append-nil log))
    made_of (Err refusals.NoSuchRequest) s s' h h' log log' (is_open, few, s_is, h_is, log_is) = ([], log_is ∙ sym (append-nil log))
    made_of (Err refusals.OutOfMemory) s s' h h' log log' (is_open, few, s_is, h_is, log_is) = ([], log_is ∙ sym (append-nil log))

    -- what an answer came to at an open server of which a request waits
    turned_by : (turned : Turned) (result : Result ℕ AnswerRefusal) (made : List LogEntry) (slot' : SlotSeen L) (s s' : ServerView) (h h' : H) (log log' : List LogEntry)
        → s.state ≡ servers.Open → s.waiting ≢ [] → (result ≡ Err refusals.OutOfMemory → turned ≡ turns.Over leaves.OutOfMemory)
        → (result ≢ Err refusals.OutOfMemory → StandsAs turned slot'.conn) → AnswerStep does stops 0 result s h log s' h' log'
        → TurnedAs turned 1 (Answers result made ∷ []) slot'
    turned_by turned (Ok n) made slot' s s' h h' log log' is_open some memory other step =
        stands_turned turned (Answers (Ok n) made) slot' (other (λ e. absurd (cc e))) tt
    turned_by turned (Err (refusals.NowClosed cause)) made slot' s s' h h' log log' is_open some memory other step =
        stands_turned turned (Answers (Err (refusals.NowClosed cause)) made) slot' (other (λ e. absurd (cc e))) tt
    turned_by turned (Err refusals.Closed) made slot' s s' h h' log log' is_open some memory other (shut, s_is, h_is, log_is) = absurd (shut is_open)
    turned_by turned (Err refusals.NoSuchRequest) made slot' s s' h h' log log' is_open some memory other (is, few, s_is, h_is, log_is) = absurd (some (nil_by s.waiting few))
    turned_by turned (Err refusals.OutOfMemory) made slot' s s' h h' log log' is_open some memory other step =
        rw (memory refl) (inr ([], made, refl, tt))

    pub answers : (turned : Turned) (result : Result ℕ AnswerRefusal) (f f' : ConnView) (link : L) (inlet : List ℕ) (from to : Logged H)
        → f.output ≡ [] → state_of f ≡ conn_states.Open → f.server.waiting ≢ []
        → (result ≡ Err refusals.OutOfMemory → turned ≡ turns.Over leaves.OutOfMemory) → (result ≢ Err refusals.OutOfMemory → StandsAs turned f')
        → ConnAnswers does stops result f from.handler (log_of from.entries.items) f' to.handler (log_of to.entries.items)
        → Turns does stops t 1 turned (slot f link inlet) from (slot f' link inlet) to
    answers turned result f f' link inlet from to sent is_open some memory other a =
        let made = made_of result f.server a.server from.handler to.handler (log_of from.entries.items) (log_of to.entries.items) a.step in record {
          acts = Answers result made.0 ∷ [];
          run = one_act does stops t (Answers result made.0) (slot f link inlet) (slot f' link inlet) from to
              (record { all_sent = sent; answers = a; logged = made.1; link = refl; inlet = refl });
          few = omega arith;
          comes_to = turned_by turned result made.0 (slot f' link inlet) f.server a.server from.handler to.handler (log_of from.entries.items) (log_of to.entries.items)
              (opens f.cause f.server.state is_open).1 some memory other a.step;
        }
