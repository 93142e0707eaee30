-- An answer of a server is a step of the machine, and the ways fit after it.
use Rattle.std.proofs.Common.{◌≡◌, ℕ, Bool, true, false, true≢false, FitsSigned, List, [], ◌∷◌, ◌++◌, append-nil, length, refl, sym, subst, ◌∙◌, ap, arith, Option, Some, None, inl, inr, Ok, Err}
use Rattle.std.specs.Prelude.{All, if◌then◌else◌, remove, slice_get}
use Rattle.std.specs.Int.{w32}
use Rattle.std.proofs.lemmas.Option.{same_Some, none-some}
use Rattle.wire_msg.specs.{Content, IsContent, Message}
use Rattle.wire_peer.specs.{AnswerStep, Asked, Does, IsCount, LogEntry, LogStep, ReplyStep, ServerView, Stops, WaitsAt, are_left, asked_by, chain, entered, id_after, is_longer, next_id, replies, takes_more, written}
use Rattle.wire_peer.specs.Replying.{put}
use Rattle.wire_peer.specs.Requests.{may_get_more}
use Rattle.wire_peer.specs.ServerAnswers.{answered, cause_of, closed_at, replies_of}
use Rattle.wire_peer.specs.declared.handlers.HandlerStop.{HandlerStop}
use Rattle.wire_peer.specs.declared.handlers.HandlerStop.TheVariants as handlers
use Rattle.wire_peer.specs.declared.log.NoReplies.{NoReplies}
use Rattle.wire_peer.specs.declared.log.NoReplies.TheVariants as reasons
use Rattle.wire_peer.specs.declared.server_state.AnswerRefusal.TheVariants as refusals
use Rattle.wire_peer.specs.declared.server_state.ServerCause.{ServerCause}
use Rattle.wire_peer.specs.declared.server_state.ServerCause.TheVariants.{ReplyTooLarge, NoMemory, HandlerFailed}
use Rattle.wire_peer.specs.declared.server_state.ServerState.TheVariants.{Open, Closed}
use Rattle.wire_model.specs.Conns.{Conn}
use Rattle.wire_model.specs.Machines.{Call, CallIs, Place, Answered, Mute, Pending, Machine, Step, Steps, stay, go, answer, log_lost, stop, entry_for, logged, logged_place, placed, server_gone}
use Rattle.wire_model.specs.Shown.{IsStopped}
use Rattle.wire_model.specs.Shown.{shown_calls}
use Rattle.wire_model.specs.Happening.{AreContents}
use Rattle.wire_model.proofs.Answering
use Rattle.wire_model.proofs.Answering.{IsAnswered, asks_that, waits_is}
use Rattle.wire_model.proofs.Chains.{AllFit, IsReplyId, chain_fits, reply_id_behind}
use Rattle.wire_model.proofs.Contents.{last_contents}
use Rattle.wire_model.proofs.Frames.{same_logged, same_server_gone, same_then}
use Rattle.wire_model.proofs.Gone.{server_gone_fits}
use Rattle.wire_model.proofs.Kept.{SameAt}
use Rattle.wire_model.proofs.Lists.{Each-at, Has-at, get-map}
use Rattle.wire_model.proofs.Machines.{Ok as IsOk, still_pending, waiting_early}
use Rattle.wire_model.proofs.Ranks.{shows-set_same, shows_never}
use Rattle.wire_model.proofs.Raws.{RawFits, raw_gives, raw_silent, raw_stops}
use Rattle.wire_model.proofs.Routes.{Bears, Fair, Fits, IsRequest, Route, Tag, TagIs, WaitingAt, server_lives, tag_calls, made_alike}

-- ---- the request

-- the message that is answered, as the machine has it: its tag, and its call or stranger
pub record AskedAt {H : Type 0} (c i : ℕ) (k : Conn) (m : Machine H) (r : Route) (msg : Message) : Type 0 where
  pub t : Tag
  pub there : slice_get r.waiting i ≡ Some t
  pub x : Call
  pub at : CallIs m.calls t.call x
  pub is : WaitingAt c x
  pub tag : TagIs m.calls t
  pub id : msg.id ≡ t.id
  pub id_fits : FitsSigned w32 t.id
  pub same : asked_by msg ≡ t.asked
  pub asked : x.asked ≡ asked_by msg
  pub no_parts : x.parts ≡ []
  pub pending : msg.flags.more_to_come ≡ false → m.client_lives c ≡ true → x.state ≡ Pending
  pub bears : msg.flags.more_to_come ≡ false → m.client_lives c ≡ true → Bears k.client.requests.outstanding k.calls t None

pub asked_at : {H : Type 0} (limit c i : ℕ) (k : Conn) (m : Machine H) (r : Route) (msg : Message) → IsOk m → Fits limit c k m r → m.server_lives c ≡ true → WaitsAt k.server i msg → AskedAt c i k m r msg
asked_at {H} limit c i k m r msg ok f alive waits = with_t (waits_is k.server.waiting r.waiting i waits.bytes (f.wait alive).same waits.at)
  where
    with_x : (t : Tag) → slice_get r.waiting i ≡ Some t → IsRequest waits.bytes t → ((x : Call) × CallIs m.calls t.call x × WaitingAt c x) → AskedAt c i k m r msg
    with_x t there request (x, at, is) =
        let asks = asks_that msg waits.bytes t request waits.spelled in
        let tag = Each-at (TagIs m.calls) r.waiting i t (f.wait alive).tags there in
        let same_x : tag.x ≡ x = same_Some tag.x x (sym tag.at ∙ at) in
        let asked : x.asked ≡ asked_by msg = ap (λ (z : Call). z.asked) (sym same_x) ∙ tag.asked ∙ sym asks.1 in
        let early = waiting_early m x (ok.each t.call x at) is.1 in
        record {
          t = t;
          there = there;
          x = x;
          at = at;
          is = is;
          tag = tag;
          id = asks.0;
          id_fits = subst (FitsSigned w32) asks.0 waits.spelled.id;
          same = asks.1;
          asked = asked;
          no_parts = early.0;
          pending = λ loud lives. still_pending m x ok (ok.each t.call x at) (ap (λ (z : Asked). z.more_to_come) asked ∙ loud) (ap m.client_lives is.0 ∙ lives) early.1;
          bears = λ loud lives. Each-at (λ a. a.asked.more_to_come ≡ false → Bears k.client.requests.outstanding k.calls a None) r.waiting i t (f.waiting_ids lives alive) there (ap (λ (z : Asked). z.more_to_come) (sym asks.1) ∙ loud);
        }

    with_t : ((t : Tag) × (slice_get r.waiting i ≡ Some t) × IsRequest waits.bytes t) → AskedAt c i k m r msg
    with_t (t, there, request) = with_x t there request ((f.wait alive).are.each t.call (Has-at (tag_calls r.waiting) i t.call (get-map (λ (a : Tag). a.call) r.waiting i t there)))

-- there are as many answers as the request allows
pub fair_of : (a : Asked) (answers : List Content) → a.more_to_come ≡ false → IsCount a (length answers) → Fair a.exhaust_allowed answers
fair_of a [] loud count = absurd (omega (arith, count.0))
fair_of a (b ∷ answers) loud count = by a.exhaust_allowed refl answers (count.1)
  where
    by : (v : Bool) → a.exhaust_allowed ≡ v → (answers : List Content) → (takes_more a ≡ false → length (b ∷ answers) ≡ 1) → are_left answers ≡ true → v ≡ true
    by true e answers one left = refl
    by false e [] one left = left
    by false e (d ∷ answers) one left =
        let few : length (b ∷ d ∷ answers) ≡ 1 = one (ap (may_get_more a.exhaust_allowed) loud ∙ e) in absurd (omega (arith, few))

-- ---- what an answer leaves

-- The request's entry is logged, and its server is still alive or lost; the ways fit.
pub record Leaves {H : Type 0} (does : Does H) (stops : Stops H) (limit c i : ℕ) (k : Conn) (server : ServerView) (m : Machine H) (r : Route) (msg : Message) (log : List LogEntry) (h : H) : Type 0 where
  pub asks : AskedAt c i k m r msg
  pub next : Machine H
  pub route : Route
  pub waits : route.waiting ≡ remove r.waiting i
  pub steps : Steps H does stops m next
  pub fits : Fits limit c (record k { server = server }) next route
  pub others : (d : ℕ) → (d ≡ c → ⊥) → SameAt d m next
  pub calls_are : shown_calls next.calls ≡ shown_calls m.calls
  pub log_is : next.log ≡ log
  pub handler_is : next.handler ≡ h
  pub raw : (taken given : List ℕ) → RawFits limit c k m r.waiting taken given → RawFits limit c (record k { server = server }) next route.waiting taken given

module _ {H : Type 0} (does : Does H) (stops : Stops H) (limit c i : ℕ) (k : Conn) (m : Machine H) (r : Route) (msg : Message) (f : Fits limit c k m r) (alive : m.server_lives c ≡ true) (is_open : k.server.state ≡ Open) (a : AskedAt c i k m r msg) where
  same_entry : (answers : Option (List Content)) → entry_for a.x answers ≡ entered k.server.connection (asked_by msg) answers
  same_entry answers = ap (λ z. record { connection = z; payload = a.x.asked.payload; answers = answers }) (a.is.0 ∙ sym f.made.connection) ∙ ap (λ (z : Asked). entered k.server.connection z answers) a.asked

  others_same : (d : ℕ) (p : Place) (answers : Option (List Content)) (h : H) → (d ≡ c → ⊥) → SameAt d m (logged m a.t.call (placed a.x p) (entry_for a.x answers) h)
  others_same d p answers h o = same_logged d m a.t.call a.x (placed a.x p) (entry_for a.x answers) h a.at (λ z. o (sym z ∙ a.is.0)) refl refl refl refl

  does_ours : (answers : List Content) (h : H) → LogStep does stops m.handler (asked_by msg) (Some answers) h → LogStep does stops m.handler a.x.asked (Some answers) h
  does_ours answers h d = subst (λ z. LogStep does stops m.handler z (Some answers) h) (sym a.asked) d

  -- ---- replies are put out, or none to a silent request

  module _ (answers : List Content) (h : H) (log : List LogEntry) (d : LogStep does stops m.handler (asked_by msg) (Some answers) h) (log_is : log ≡ m.log ++ entered k.server.connection (asked_by msg) (Some answers) ∷ [])
      (short : is_longer k.server.limit (replies k.server.next_id msg.id (asked_by msg) answers) ≡ false) (contents : AreContents log) where
    abbrev after : ServerView
    after = answered k.server i (put (replies_of k.server) (replies k.server.next_id msg.id (asked_by msg) answers) (next_id k.server.next_id (asked_by msg) answers))

    same_server : IsAnswered i k.server after
    same_server = record { held = refl; waiting = refl; still = refl; limit = refl; connection = refl }

    next_is : IsReplyId after.next_id
    next_is = reply_id_behind k.server.next_id (asked_by msg) answers f.made.reply_id

    abbrev logged_at : Place → Machine H
    logged_at p = logged m a.t.call (placed a.x p) (entry_for a.x (Some answers)) h

    leaves : (p : Place) (route : Route) → p ≡ logged_place a.x (length m.log) → route.waiting ≡ remove r.waiting i → Fits limit c (record k { server = after }) (logged_at p) route
        → ((taken given : List ℕ) → RawFits limit c k m r.waiting taken given → RawFits limit c (record k { server = after }) (logged_at (logged_place a.x (length m.log))) (remove r.waiting i) taken given) → Leaves does stops limit c i k after m r msg log h
    leaves p route is waits fits raw = record {
      asks = a;
      next = logged_at p;
      route = route;
      waits = waits;
      steps = go {o = logged_at p} stay (answer a.t.call a.x answers h a.at a.is.1 (does_ours answers h d) (ap logged_at is));
      fits = fits;
      others = λ e o. others_same e p (Some answers) h o;
      calls_are = shows-set_same m.calls a.t.call a.x (placed a.x p) a.at refl;
      log_is = ap (λ e. m.log ++ e ∷ []) (same_entry (Some answers)) ∙ sym log_is;
      handler_is = refl;
      raw = λ taken given fits'. rw (is, waits) (raw taken given fits');
    }

    -- where the entry puts the request
    placed_by : (silent : Bool) → msg.flags.more_to_come ≡ silent → (if silent then Mute (length m.log) else Answered (length m.log)) ≡ logged_place a.x (length m.log)
    placed_by silent e = ap (λ b. if b then Mute (length m.log) else Answered (length m.log)) (sym e ∙ ap (λ (z : Asked). z.more_to_come) (sym a.asked))

    contents_are : All (λ (z : Content). ∥ IsContent z ∥₁) answers
    contents_are = last_contents m.log (entered k.server.connection (asked_by msg) (Some answers)) answers (subst AreContents log_is contents) refl

    fits_all : msg.flags.more_to_come ≡ false → AllFit limit (chain k.server.next_id a.t.id answers)
    fits_all loud = chain_fits limit k.server.next_id a.t.id answers
        (ap (λ z. is_longer limit (chain k.server.next_id z answers)) (sym a.id) ∙ ap (λ z. is_longer z (chain k.server.next_id msg.id answers)) (sym f.made.limit_up)
        ∙ ap (λ b. is_longer k.server.limit (if b then [] else chain k.server.next_id msg.id answers)) (sym loud) ∙ short) f.made.reply_id a.id_fits contents_are

    pub gives : Leaves does stops limit c i k after m r msg log h
    gives = by msg.flags.more_to_come refl
      where
        by : (silent : Bool) → msg.flags.more_to_come ≡ silent → Leaves does stops limit c i k after m r msg log h
        by true silent =
            let none : after.output ≡ k.server.output = ap (λ b. k.server.output ++ written (if b then [] else chain k.server.next_id msg.id answers)) silent ∙ append-nil k.server.output in
            leaves (Mute (length m.log)) (record { onway = r.onway; waiting = remove r.waiting i; due = r.due }) (placed_by true silent) refl
            (Answering.mute_fits limit c k m r f i a.t a.there a.x a.at a.is a.no_parts after same_server next_is (entry_for a.x (Some answers)) h none)
            (λ taken given. raw_silent limit c k (record k { server = after }) m r.waiting taken given i a.t a.x answers h alive is_open a.there a.at a.is.0 a.is.1 (ap (λ (z : Asked). z.more_to_come) a.asked ∙ silent) refl none
            (ap (λ b. if b then k.server.next_id else id_after k.server.next_id answers) silent))
        by false loud =
            let all : after.output ≡ k.server.output ++ written (chain k.server.next_id a.t.id answers) =
            ap (λ b. k.server.output ++ written (if b then [] else chain k.server.next_id msg.id answers)) loud ∙ ap (λ z. k.server.output ++ written (chain k.server.next_id z answers)) a.id in
            leaves (Answered (length m.log)) (record { onway = r.onway; waiting = remove r.waiting i; due = r.due ++ record { tag = a.t; last = None; next = k.server.next_id; left = answers; entry = length m.log } ∷ [] }) (placed_by false loud) refl
            (Answering.loud_fits limit c k m r f i a.t a.there a.x a.at a.is a.no_parts after same_server next_is (entry_for a.x (Some answers)) h
            answers refl (fair_of a.t.asked answers (ap (λ (z : Asked). z.more_to_come) (sym a.same) ∙ loud) (subst (λ z. IsCount z (length answers)) a.same d.1)) (fits_all loud) (a.pending loud) (a.bears loud)
            all a.tag)
            (λ taken given. raw_gives limit c k (record k { server = after }) m r.waiting taken given i a.t a.x answers h alive is_open a.there a.at a.is.0 a.is.1 (ap (λ (z : Asked). z.more_to_come) a.asked ∙ loud) refl all
            (ap (λ b. if b then k.server.next_id else id_after k.server.next_id answers) loud) refl)

  -- ---- the server closes: nothing is put out, and the entry stays

  pub closes : (cause : ServerCause) → IsStopped (Closed cause) → (answers : Option (List Content)) (h : H) (log : List LogEntry) → log ≡ m.log ++ entered k.server.connection (asked_by msg) answers ∷ []
      → ((n : Machine H) → n ≡ server_gone (logged m a.t.call (placed a.x (Mute (length m.log))) (entry_for a.x answers) h) a.x.connection → Step H does stops m n)
      → Leaves does stops limit c i k (closed_at k.server i cause) m r msg log h
  closes cause good answers h log log_is step = record {
    asks = a;
    next = server_gone mid c;
    route = route;
    waits = refl;
    steps = go {o = server_gone mid c} stay (step (server_gone mid c) (ap (server_gone mid) (sym a.is.0)));
    fits = server_gone_fits limit c (record k { server = still }) mid route (closed_at k.server i cause) k.up_cut refl refl
        (made_alike limit c k _ refl refl refl refl refl refl refl f.made)
        (λ raw uncut. inr good)
        (Answering.mute_fits limit c k m r f i a.t a.there a.x a.at a.is a.no_parts still (record { held = refl; waiting = refl; still = refl; limit = refl; connection = refl }) f.made.reply_id (entry_for a.x answers) h refl);
    others = λ e o. same_then e m mid (server_gone mid c) (others_same e (Mute (length m.log)) answers h o) (same_server_gone e c mid o);
    calls_are = shows_never c mid.calls ∙ shows-set_same m.calls a.t.call a.x (placed a.x (Mute (length m.log))) a.at refl;
    log_is = ap (λ e. m.log ++ e ∷ []) (same_entry answers) ∙ sym log_is;
    handler_is = refl;
    raw = λ taken given fits. subst (λ d. RawFits limit c (record k { server = closed_at k.server i cause }) (server_gone mid d) (remove r.waiting i) taken given) a.is.0
        (raw_stops limit c k (record k { server = closed_at k.server i cause }) m r.waiting (remove r.waiting i) taken given i a.t a.x answers h cause good alive is_open a.there a.at a.is.0 a.is.1 refl refl refl refl fits);
  }
    where
      still : ServerView
      still = record (k.server) { waiting = remove k.server.waiting i }

      mid : Machine H
      mid = logged m a.t.call (placed a.x (Mute (length m.log))) (entry_for a.x answers) h

      route : Route
      route = record { onway = r.onway; waiting = remove r.waiting i; due = r.due }

-- ---- the server's answer

-- an answer to some message that waits
abbrev pub LeavesSome : {H : Type 0} → Does H → Stops H → (limit c i : ℕ) → Conn → ServerView → Machine H → Route → List LogEntry → H → Type 0
LeavesSome does stops limit c i k server m r log h = (msg : Message) × WaitsAt k.server i msg × Leaves does stops limit c i k server m r msg log h

module _ {H : Type 0} (does : Does H) (stops : Stops H) (limit c i : ℕ) (k : Conn) (m : Machine H) (r : Route) (ok : IsOk m) (f : Fits limit c k m r) where
  alive : k.server.state ≡ Open → m.server_lives c ≡ true
  alive is_open = sym f.server_is ∙ ap server_lives is_open

  -- the request is answered
  pub answered_leaves : (n : ℕ) (s : ServerView) (h : H) (log : List LogEntry) → AnswerStep does stops i (Ok n) k.server m.handler m.log s h log → AreContents log → LeavesSome does stops limit c i k s m r log h
  answered_leaves n s h log (is_open, number, (msg, waits, (replies', (answers, is, short, put_is), s_is))) contents =
      (msg, waits, rw (s_is, put_is) (gives does stops limit c i k m r msg f (alive is_open) is_open (asked_at limit c i k m r msg ok f (alive is_open) waits) answers h log (is.answered, is.count) is.entry short contents))

  module _ (is_open : k.server.state ≡ Open) (msg : Message) (a : AskedAt c i k m r msg) where
    loud_of : msg.flags.more_to_come ≡ false → a.x.asked.more_to_come ≡ false
    loud_of loud = ap (λ (z : Asked). z.more_to_come) a.asked ∙ loud

    -- the answers are lost with the server
    lose : (cause : ServerCause) → IsStopped (Closed cause) → (answers : List Content) (h : H) (log : List LogEntry) → msg.flags.more_to_come ≡ false → LogStep does stops m.handler (asked_by msg) (Some answers) h
        → log ≡ m.log ++ entered k.server.connection (asked_by msg) (Some answers) ∷ [] → Leaves does stops limit c i k (closed_at k.server i cause) m r msg log h
    lose cause good answers h log loud d is = closes does stops limit c i k m r msg f (alive is_open) is_open a cause good (Some answers) h log is
        (λ n e. log_lost a.t.call a.x answers h a.at a.is.1 (loud_of loud) (subst (λ z. LogStep does stops m.handler z (Some answers) h) (sym a.asked) d) e)

    -- the handler stopped
    fail : (cause : ServerCause) → IsStopped (Closed cause) → (why : HandlerStop) (h : H) (log : List LogEntry) → stops m.handler (asked_by msg) why h
        → log ≡ m.log ++ entered k.server.connection (asked_by msg) None ∷ [] → Leaves does stops limit c i k (closed_at k.server i cause) m r msg log h
    fail cause good why h log d is = closes does stops limit c i k m r msg f (alive is_open) is_open a cause good None h log is
        (λ n e. stop a.t.call a.x why h a.at a.is.1 (subst (λ z. stops m.handler z why h) (sym a.asked) d) e)

    -- replies that are too large aren't those of a silent request
    loud_long : (answers : List Content) → is_longer k.server.limit (replies k.server.next_id msg.id (asked_by msg) answers) ≡ true → msg.flags.more_to_come ≡ false
    loud_long answers long = by msg.flags.more_to_come refl
      where
        by : (silent : Bool) → msg.flags.more_to_come ≡ silent → msg.flags.more_to_come ≡ false
        by true e = absurd (true≢false (sym long ∙ ap (λ b. is_longer k.server.limit (if b then [] else chain k.server.next_id msg.id answers)) e))
        by false e = e

    -- for this reason there are no replies, and so the server closes for this cause
    closed_by : (why : NoReplies) (cause : ServerCause) (h : H) (log : List LogEntry) → cause_of why ≡ Some cause → ReplyStep does stops k.server.connection msg.id (asked_by msg) (Err why) m.handler m.log (replies_of k.server) h log (replies_of k.server)
        → Leaves does stops limit c i k (closed_at k.server i cause) m r msg log h
    closed_by reasons.NotAsked cause h log e d = absurd (none-some cause e)
    closed_by (reasons.Stopped handlers.Failed) cause h log e d = rw (← same_Some HandlerFailed cause e) (fail HandlerFailed (inr (inr refl)) handlers.Failed h log d.0 d.1)
    closed_by (reasons.Stopped handlers.OutOfMemory) cause h log e d = rw (← same_Some NoMemory cause e) (fail NoMemory (inr (inl refl)) handlers.OutOfMemory h log d.0 d.1)
    closed_by reasons.TooLarge cause h log e (answers, is, long, same) = rw (← same_Some ReplyTooLarge cause e) (lose ReplyTooLarge (inl refl) answers h log (loud_long answers long) (is.answered, is.count) is.entry)
    closed_by reasons.NoMemory cause h log e (answers, is, loud, short, same) = rw (← same_Some NoMemory cause e) (lose NoMemory (inr (inl refl)) answers h log loud (is.answered, is.count) is.entry)

  -- the server closes at the request
  pub closed_leaves : (cause : ServerCause) (s : ServerView) (h : H) (log : List LogEntry) → AnswerStep does stops i (Err (refusals.NowClosed cause)) k.server m.handler m.log s h log → LeavesSome does stops limit c i k s m r log h
  closed_leaves cause s h log (is_open, s_is, (msg, waits, (why, cause_is, d))) =
      (msg, waits, rw s_is (closed_by is_open msg (asked_at limit c i k m r msg ok f (alive is_open) waits) why cause h log cause_is d))
