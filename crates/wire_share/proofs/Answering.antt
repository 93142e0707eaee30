-- A downstream is served in order, with the answers that it was given.
use Rattle.std.proofs.Common.{◌≡◌, ℕ, Bool, true, false, List, [], ◌∷◌, ◌++◌, refl, sym, ◌∙◌, ap, subst, Some, None, Result, Ok, Err, ◌⊎◌, inl, inr, append_assoc, append-nil}
use Rattle.std.proofs.lemmas.Option.{none-some, same_Some}
use Rattle.wire_msg.specs.{Content, Message, SpellsMsg}
use Rattle.wire_peer.specs.{AnswerStep, Does, LogEntry, ServerView, WaitsAt, asked_by, entered}
use Rattle.wire_peer.specs.declared.log.NoReplies.{NoReplies}
use Rattle.wire_peer.specs.declared.log.NoReplies.TheVariants.{NoMemory, NotAsked, Stopped, TooLarge}
use Rattle.wire_peer.specs.declared.server_state.AnswerRefusal.{AnswerRefusal}
use Rattle.wire_peer.specs.declared.server_state.AnswerRefusal.TheVariants as refusals
use Rattle.wire_peer.specs.declared.server_state.ServerCause.{ServerCause}
use Rattle.wire_peer.specs.Replying.{ReplyStep}
use Rattle.wire_peer.specs.ServerAnswers.{cause_of, replies_of}
use Rattle.wire_model.proofs.Lemmas.{same_request}
use Rattle.wire_serve.specs.{ConnView, HasLeft, IsServed, state_of}
use Rattle.wire_serve.specs.ServerConnections.{ended_by}
use Rattle.wire_serve.specs.declared.cause.ConnState.{ConnState}
use Rattle.wire_serve.specs.declared.cause.ConnState.TheVariants as conn_states
use Rattle.wire_serve.specs.Serving.{all_answered, nothing, one_lost, one_waits}
use Rattle.wire_serve.proofs.Lemmas.{answer_number, answers, ended_same, goes, put_server, takes, takes_same}
use Rattle.wire_share.specs.Acts.{Answers, DownAct, DownDoes, DownMove, DownMoves, DownRun, Ends, GoesWith, Moves, PassesOn, Sends, Stays, Takes}
use Rattle.wire_share.specs.Answering.{EachMakesOwn, IsAnswered, IsEntryWith, MakesOwn, made_by, of_acts, sent_by, taken_by}
use Rattle.wire_share.specs.Sharing.{DownSeen, Leaves, echoes, new_downstream, relays, wants_memory}

-- what waits is one message
one_waiting : (s : ServerView) (m n : Message) → WaitsAt s 0 m → WaitsAt s 0 n → m ≡ n
one_waiting s m n v w =
    same_request m n w.bytes (subst (λ (bytes : List ℕ). SpellsMsg m bytes) (same_Some v.bytes w.bytes (sym v.at ∙ w.at)) v.spelled) w.spelled

-- ---- the entry of a request that left

module _ {H : Type 0} (does : Does H) (h : H) (c : ℕ) (m : Message) (answer : Content) (gives : (answers : List Content) (after : H) → does h (asked_by m) answers after → answers ≡ answer ∷ []) where
  -- the entry of what was answered
  with_answer : (s : ServerView) (n : Message) (given : List Content) (after : H) (log : List LogEntry) → s.connection ≡ c → n ≡ m → does h (asked_by n) given after
      → log ≡ entered s.connection (asked_by n) (Some given) ∷ [] → IsEntryWith c m answer log
  with_answer s n given after log number same answered entry =
      let is = gives given after (subst (λ (x : Message). does h (asked_by x) given after) same answered) in
      inl (entry ∙ ap (λ (k : ℕ). entered k (asked_by n) (Some given) ∷ []) number ∙ ap (λ (x : Message). entered c (asked_by x) (Some given) ∷ []) same
      ∙ ap (λ (xs : List Content). entered c (asked_by m) (Some xs) ∷ []) is)

  -- that of what wasn't
  lost : (why : NoReplies) (cause : ServerCause) (s : ServerView) (n : Message) (after : H) (log : List LogEntry) → s.connection ≡ c → n ≡ m → cause_of why ≡ Some cause
      → ReplyStep does wants_memory s.connection n.id (asked_by n) (Err why) h [] (replies_of s) after log (replies_of s) → IsEntryWith c m answer log
  lost NotAsked cause s n after log number same closes x = absurd (none-some cause closes)
  lost (Stopped stop) cause s n after log number same closes x =
      inr (x.1 ∙ ap (λ (k : ℕ). entered k (asked_by n) None ∷ []) number ∙ ap (λ (y : Message). entered c (asked_by y) None ∷ []) same)
  lost TooLarge cause s n after log number same closes x = with_answer s n x.0 after log number same x.1.answered x.1.entry
  lost NoMemory cause s n after log number same closes x = with_answer s n x.0 after log number same x.1.answered x.1.entry

  entry_by : (r : Result ℕ AnswerRefusal) (s s' : ServerView) (after : H) (log : List LogEntry) → HasLeft r → s.connection ≡ c → WaitsAt s 0 m
      → AnswerStep does wants_memory 0 r s h [] s' after log → IsEntryWith c m answer log
  entry_by (Ok k) s s' after log left number waits (opens, count, (n, at, (r, (given, got, short, r_is), s_is))) =
      with_answer s n given after log number (one_waiting s n m at waits) got.answered got.entry
  entry_by (Err (refusals.NowClosed cause)) s s' after log left number waits (opens, s_is, (n, at, (why, closes, step))) =
      lost why cause s n after log number (one_waiting s n m at waits) closes step
  entry_by (Err refusals.Closed) s s' after log left number waits step = absurd left
  entry_by (Err refusals.NoSuchRequest) s s' after log left number waits step = absurd left
  entry_by (Err refusals.OutOfMemory) s s' after log left number waits step = absurd left

-- ---- what is served

-- a downstream of connection c was served so
record Stands (c : ℕ) (came : List ℕ) (made : List LogEntry) (sent : List ℕ) (d : DownSeen) : Type 0 where
  number : d.conn.server.connection ≡ c
  taken_over : d.conn.server.output ≡ []
  served : IsServed c came made sent d.conn

-- ends that add nothing
as_was : (c : ℕ) (came : List ℕ) (made : List LogEntry) (sent : List ℕ) (f : ConnView) → IsServed c came made sent f → IsServed c (came ++ []) (made ++ []) (sent ++ []) f
as_was c came made sent f served =
    subst (λ (x : List ℕ). IsServed c x (made ++ []) (sent ++ []) f) (sym (append-nil came))
    (subst (λ (x : List LogEntry). IsServed c came x (sent ++ []) f) (sym (append-nil made)) (subst (λ (x : List ℕ). IsServed c came made x f) (sym (append-nil sent)) served))

ends : (state : ConnState) (c : ℕ) (came sent : List ℕ) (made : List LogEntry) (f : ConnView) (part : List ℕ) → state_of f ≡ state → f.part ≡ part → IsServed c came made sent f
    → IsServed c came made sent (ended_by state part f)
ends (conn_states.Closed cause) c came sent made f part is gathered served = served
ends conn_states.Open c came sent made f [] is gathered (all_answered s none parts put) = all_answered s none parts put
ends conn_states.Open c came sent made f (b ∷ bytes) is gathered (all_answered s none parts put) = all_answered s none parts put
ends conn_states.Open c came sent made f [] is gathered (one_waits m bytes request s one spelled whole parts empty put) = one_waits m bytes request s one spelled whole parts empty put
ends conn_states.Open c came sent made f (b ∷ rest) is gathered (one_waits m bytes request s one spelled whole parts empty put) =
    one_waits m bytes request s one spelled whole parts empty put
ends conn_states.Open c came sent made f part is gathered (one_lost queried m bytes answers_ s spelled parts entry none closed put) = absurd (closed is)

-- a request left a server connection
left : {H : Type 0} (does : Does H) (h : H) (c : ℕ) (came sent : List ℕ) (made : List LogEntry) (old new : DownSeen) (l : Leaves does h old.conn new.conn) → Stands c came made sent old
    → Stands c (came ++ []) (made ++ l.log) (sent ++ []) new
left does h c came sent made old new l stands =
    let put = put_server old.conn.queried l.result old.conn new.conn l.step.server l.step.out in
    record {
      number = ap (λ (s : ServerView). s.connection) put
          ∙ answer_number does wants_memory l.result old.conn.server l.step.server h l.after [] l.log l.step.step ∙ stands.number;
      taken_over = ap (λ (s : ServerView). s.output) put;
      served =
          subst (λ (x : List ℕ). IsServed c x (made ++ l.log) (sent ++ []) new.conn) (sym (append-nil came))
          (subst (λ (x : List ℕ). IsServed c came (made ++ l.log) x new.conn) (sym (append-nil sent))
          (answers does wants_memory l.result c came sent made l.log old.conn new.conn l.step.server h l.after [] l.log stands.number stands.taken_over l.all_sent l.step.step l.step.out
          refl stands.served));
    }

-- the server connection is as it was
same_conn : (c : ℕ) (came sent : List ℕ) (made : List LogEntry) (old new : DownSeen) → new.conn ≡ old.conn → Stands c came made sent old
    → Stands c (came ++ []) (made ++ []) (sent ++ []) new
same_conn c came sent made old new same stands = record {
  number = ap (λ (f : ConnView). f.server.connection) same ∙ stands.number;
  taken_over = ap (λ (f : ConnView). f.server.output) same ∙ stands.taken_over;
  served = as_was c came made sent new.conn (subst (λ (f : ConnView). IsServed c came made sent f) (sym same) stands.served);
}

moves : (move : DownMove) (c : ℕ) (came sent : List ℕ) (made : List LogEntry) (old new : DownSeen) → DownMoves move old new → Stands c came made sent old
    → Stands c (came ++ taken_by (Moves move)) (made ++ []) (sent ++ sent_by (Moves move)) new
moves (Takes bytes) c came sent made old new does_ stands =
    let same = takes_same bytes old.conn new.conn does_.1 in
    record {
      number = same.number ∙ stands.number;
      taken_over = same.output ∙ stands.taken_over;
      served =
          subst (λ (x : List LogEntry). IsServed c (came ++ bytes) x (sent ++ []) new.conn) (sym (append-nil made))
          (subst (λ (x : List ℕ). IsServed c (came ++ bytes) made x new.conn) (sym (append-nil sent)) (takes c came sent bytes made old.conn new.conn does_.0 does_.1 stands.served));
    }
moves (Sends bytes) c came sent made old new does_ stands =
    let same = ap (λ (d : DownSeen). d.conn) does_.2 in
    record {
      number = ap (λ (f : ConnView). f.server.connection) same ∙ stands.number;
      taken_over = ap (λ (f : ConnView). f.server.output) same ∙ stands.taken_over;
      served =
          subst (λ (x : List ℕ). IsServed c x (made ++ []) (sent ++ bytes) new.conn) (sym (append-nil came))
          (subst (λ (x : List LogEntry). IsServed c came x (sent ++ bytes) new.conn) (sym (append-nil made))
          (subst (λ (f : ConnView). IsServed c came made (sent ++ bytes) f) (sym same) (goes c came sent bytes does_.0 made old.conn does_.1 stands.served)));
    }
moves Ends c came sent made old new does_ stands =
    let conn = ap (λ (d : DownSeen). d.conn) does_ in
    let same = ended_same (state_of old.conn) old.conn.part old.conn in
    record {
      number = ap (λ (f : ConnView). f.server.connection) conn ∙ same.number ∙ stands.number;
      taken_over = ap (λ (f : ConnView). f.server.output) conn ∙ same.output ∙ stands.taken_over;
      served =
          as_was c came made sent new.conn
          (subst (λ (f : ConnView). IsServed c came made sent f) (sym conn) (ends (state_of old.conn) c came sent made old.conn old.conn.part refl refl stands.served));
    }
moves Stays c came sent made old new does_ stands = same_conn c came sent made old new (ap (λ (d : DownSeen). d.conn) does_) stands

waits_on : (c : ℕ) (came sent : List ℕ) (made more : List LogEntry) (old new : DownSeen) (call : _) → GoesWith false call more old new → Stands c came made sent old
    → Stands c (came ++ []) (made ++ more) (sent ++ []) new
waits_on c came sent made more old new call does_ stands =
    subst (λ (x : List LogEntry). Stands c (came ++ []) (made ++ x) (sent ++ []) new) (sym does_.1) (same_conn c came sent made old new (ap (λ (d : DownSeen). d.conn) does_.0) stands)

goes_on : (b : Bool) (m : Message) (c : ℕ) (came sent : List ℕ) (made more : List LogEntry) (old new : DownSeen) (call : _) → GoesWith b call more old new → Stands c came made sent old
    → Stands c (came ++ []) (made ++ more) (sent ++ []) new
goes_on false m c came sent made more old new call does_ stands = waits_on c came sent made more old new call does_ stands
goes_on true m c came sent made more old new call (inl does_) stands =
    subst (λ (x : List LogEntry). Stands c (came ++ []) (made ++ x) (sent ++ []) new) does_.0.2 (left echoes does_.0.0 c came sent made old new does_.0.1 stands)
goes_on true m c came sent made more old new call (inr does_) stands = waits_on c came sent made more old new call does_ stands

step : (act : DownAct) (c : ℕ) (came sent : List ℕ) (made : List LogEntry) (old new : DownSeen) → DownDoes act old new → Stands c came made sent old
    → Stands c (came ++ taken_by act) (made ++ made_by act) (sent ++ sent_by act) new
step (Moves move) c came sent made old new does_ stands = moves move c came sent made old new does_ stands
step (PassesOn m call more) c came sent made old new does_ stands = goes_on m.flags.more_to_come m c came sent made more old new call does_.1 stands
step (Answers m call answer more) c came sent made old new does_ stands =
    subst (λ (x : List LogEntry). Stands c (came ++ []) (made ++ x) (sent ++ []) new) does_.2.1
    (left relays (record { payload = does_.2.0.payload }) c came sent made old new does_.2.0.leaves stands)

-- each act makes its own entry
silent : (b : Bool) (m : Message) (c : ℕ) (more : List LogEntry) (old new : DownSeen) (call : _) → old.conn.server.connection ≡ c → WaitsAt old.conn.server 0 m
    → GoesWith b call more old new → (more ≡ []) ⊎ IsEntryWith c m m.content more
silent false m c more old new call number waits does_ = inl does_.1
silent true m c more old new call number waits (inr does_) = inl does_.1
silent true m c more old new call number waits (inl does_) =
    let l = does_.0.1 in
    inr (subst (IsEntryWith c m m.content) does_.0.2
    (entry_by echoes does_.0.0 c m m.content (λ given after is. is) l.result old.conn.server l.step.server l.after l.log l.left number waits l.step.step))

makes_own : (act : DownAct) (c : ℕ) (old new : DownSeen) → old.conn.server.connection ≡ c → DownDoes act old new → MakesOwn c act
makes_own (Moves move) c old new number does_ = tt
makes_own (PassesOn m call more) c old new number does_ = silent m.flags.more_to_come m c more old new call number does_.0.at does_.1
makes_own (Answers m call answer more) c old new number does_ =
    let l = does_.2.0.leaves in
    subst (IsEntryWith c m answer) does_.2.1
    (entry_by relays (record { payload = does_.2.0.payload }) c m answer (λ given after is. is ∙ ap (λ (x : Content). x ∷ []) does_.2.0.content) l.result old.conn.server l.step.server l.after l.log
    l.left number does_.1 l.step.step)

serves : (acts : List DownAct) (c : ℕ) (came sent : List ℕ) (made : List LogEntry) (old new : DownSeen) → DownRun old acts new → Stands c came made sent old
    → Stands c (came ++ of_acts taken_by acts) (made ++ of_acts made_by acts) (sent ++ of_acts sent_by acts) new × EachMakesOwn c acts
serves [] c came sent made old new run stands = (same_conn c came sent made old new (ap (λ (d : DownSeen). d.conn) run) stands, tt)
serves (act ∷ acts) c came sent made old new run stands =
    let on = serves acts c (came ++ taken_by act) (sent ++ sent_by act) (made ++ made_by act) run.0 new run.2 (step act c came sent made old run.0 run.1 stands) in (
      subst (λ (x : List ℕ). Stands c x (made ++ of_acts made_by (act ∷ acts)) (sent ++ of_acts sent_by (act ∷ acts)) new) (append_assoc came (taken_by act) (of_acts taken_by acts))
          (subst (λ (x : List LogEntry). Stands c ((came ++ taken_by act) ++ of_acts taken_by acts) x (sent ++ of_acts sent_by (act ∷ acts)) new) (append_assoc made (made_by act) (of_acts made_by acts))
          (subst (λ (x : List ℕ). Stands c ((came ++ taken_by act) ++ of_acts taken_by acts) ((made ++ made_by act) ++ of_acts made_by acts) x new) (append_assoc sent (sent_by act) (of_acts sent_by acts))
          on.0)),
      (makes_own act c old run.0 stands.number run.1, on.1),
    )

pub answered : (c : ℕ) (acts : List DownAct) (now : DownSeen) → DownRun (new_downstream c) acts now → IsAnswered c acts now
answered c acts now run =
    let all = serves acts c [] [] [] (new_downstream c) now run (record { number = refl; taken_over = refl; served = all_answered nothing refl refl refl }) in
    record { served = all.0.served; own = all.1 }
