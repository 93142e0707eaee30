-- What became of one message that was answered.
use Rattle.std.proofs.Common.{◌≡◌, ℕ, inl, inr, List, [], ◌∷◌, ◌++◌, length, None, Some, Ok, Err, refl, ap, sym, subst, ◌∙◌, append-nil, slice_get, arith}
use Rattle.std.specs.Prelude.{Result}
use Rattle.std.proofs.lemmas.Option.{same_Some}
use Rattle.std.specs.Io.KnownBytes.{Appends}
use Rattle.wire_msg.specs.{Content, IsMessage, Message, SpellsMsg}
use Rattle.wire_model.specs.{ServerEnd, ServerMovesOn, ServerRun, with_server_output}
use Rattle.wire_peer.specs.{AnswerStep, Does, ReplyState, ReplyStep, ServerView, Stops, asked_by, entered, next_id, replies, written}
use Rattle.wire_peer.specs.Replying.{IsAnswered, put}
use Rattle.wire_peer.specs.ServerAnswers.{cause_of, replies_of}
use Rattle.wire_peer.specs.declared.handlers.HandlerStop.TheVariants as stop
use Rattle.wire_peer.specs.declared.log.NoReplies.{NoReplies}
use Rattle.wire_peer.specs.declared.log.NoReplies.TheVariants as none
use Rattle.wire_peer.specs.declared.server_state.AnswerRefusal.{AnswerRefusal}
use Rattle.wire_peer.specs.declared.server_state.AnswerRefusal.TheVariants as refusals
use Rattle.wire_peer.specs.declared.server_state.ServerCause.{ServerCause}
use Rattle.wire_peer.specs.declared.server_state.ServerCause.TheVariants as causes
use Rattle.wire_peer.specs.declared.server_state.ServerState.{ServerState}
use Rattle.wire_peer.specs.declared.server_state.ServerState.TheVariants.{Closed, Open}
use Rattle.wire_model.specs.Owners.{Answers, SendsDown}
use Rattle.wire_end.specs.Answering.{AnswersAs, GotEntry, SentPart, StandsAfter, end_by, end_of}
use Rattle.wire_end.specs.Serving.{Seen}

-- a server that closed for a cause stands as serving that this cause ended says
pub closed_stands : (cause : ServerCause) (state : ServerState) → state ≡ Closed cause → StandsAfter (end_by cause) state
closed_stands causes.Ended state is = is
closed_stands causes.EndedInside state is = is
closed_stands (causes.Message fault) state is = is
closed_stands causes.ReplyTooLarge state is = is
closed_stands causes.NoMemory state is = inr is
closed_stands causes.HandlerFailed state is = is

module _ {H : Type 0} (does : Does H) (stops : Stops H) where
  -- a handler that answered, and one that stopped, has its entry
  abbrev answered : (c : ℕ) (m : Message) (answers : List Content) (old new : Seen H) → IsAnswered does c (asked_by m) answers old.handler old.log new.handler new.log → GotEntry does stops c m old new
  answered c m answers old new a = record {
    entry = entered c (asked_by m) (Some answers);
    logged = a.entry;
    connected = refl;
    payload = refl;
    step = (a.answered, a.count);
  }

  abbrev stopped : (c : ℕ) (m : Message) (s : _) (old new : Seen H) → stops old.handler (asked_by m) s new.handler → new.log ≡ old.log ++ entered c (asked_by m) None ∷ [] → GotEntry does stops c m old new
  stopped c m s old new a e = record {
    entry = entered c (asked_by m) None;
    logged = e;
    connected = refl;
    payload = refl;
    step = (s, a);
  }

  -- ---- what waits

  -- the request that waits alone, as the message that was found there
  spelled_front : (waiting : List (List ℕ)) (front bytes : List ℕ) (m : Message) → waiting ≡ front ∷ [] → slice_get waiting 0 ≡ Some bytes → SpellsMsg m bytes → SpellsMsg m front
  spelled_front waiting front bytes m only at spelled =
      subst (SpellsMsg m) (sym (same_Some front bytes (subst (λ (q : List (List ℕ)). slice_get q 0 ≡ Some bytes) only at))) spelled

  -- ---- no replies

  by_why : (c : ℕ) (m : Message) (why : NoReplies) (cause : ServerCause) (id' : ℕ) (s s' : ReplyState) (old new : Seen H) → cause_of why ≡ Some cause
      → ReplyStep does stops c m.id (asked_by m) (Err why) old.handler old.log s new.handler new.log s'
      → new.failures ≡ old.failures → Appends old.sent new.sent [] → AnswersAs does stops c s.limit m (Err (end_of (refusals.NowClosed cause))) s.next id' old new
  by_why c m none.NotAsked cause id' s s' old new is x works sent = absurd (cc)
  by_why c m (none.Stopped stop.Failed) cause id' s s' old new is x works sent =
      subst (λ (q : ServerCause). AnswersAs does stops c s.limit m (Err (end_of (refusals.NowClosed q))) s.next id' old new) (same_Some _ _ is) (works, sent, stopped c m stop.Failed old new x.0 x.1, refl, x.0)
  by_why c m (none.Stopped stop.OutOfMemory) cause id' s s' old new is x works sent =
      subst (λ (q : ServerCause). AnswersAs does stops c s.limit m (Err (end_of (refusals.NowClosed q))) s.next id' old new) (same_Some _ _ is) (works, sent, inr (stopped c m stop.OutOfMemory old new x.0 x.1, x.0))
  by_why c m none.TooLarge cause id' s s' old new is x works sent =
      subst (λ (q : ServerCause). AnswersAs does stops c s.limit m (Err (end_of (refusals.NowClosed q))) s.next id' old new) (same_Some _ _ is) (works, sent, answered c m x.0 old new x.1, x.2)
  by_why c m none.NoMemory cause id' s s' old new is x works sent =
      subst (λ (q : ServerCause). AnswersAs does stops c s.limit m (Err (end_of (refusals.NowClosed q))) s.next id' old new) (same_Some _ _ is) (works, sent, inr (answered c m x.0 old new x.1, (x.2, x.3)))

  -- a request got no replies
  pub no_replies : (refusal : AnswerRefusal) (s s' : ServerView) (front : List ℕ) (id' : ℕ) (old new : Seen H) → s.state ≡ Open → s.waiting ≡ front ∷ [] → IsMessage s.limit front
      → AnswerStep does stops 0 (Err refusal) s old.handler old.log s' new.handler new.log → new.failures ≡ old.failures → Appends old.sent new.sent []
      → (m : Message) × SpellsMsg m front × AnswersAs does stops s.connection s.limit m (Err (end_of refusal)) s.next_id id' old new
  no_replies (refusals.NowClosed cause) s s' front id' old new is_open only whole x works sent = (
    x.2.0,
    spelled_front s.waiting front x.2.1.bytes x.2.0 only x.2.1.at x.2.1.spelled,
    by_why s.connection x.2.0 x.2.2.0 cause id' (replies_of s) (replies_of s) old new x.2.2.1 x.2.2.2 works sent,
  )
  no_replies refusals.OutOfMemory s s' front id' old new is_open only whole x works sent = (whole.1.0, whole.1.1, (works, sent, inl (x.3, x.4)))
  no_replies refusals.Closed s s' front id' old new is_open only whole x works sent = absurd (x.0 is_open)
  no_replies refusals.NoSuchRequest s s' front id' old new is_open only whole x works sent =
      let none : length s.waiting ≡ 1 = ap length only in absurd (let le = x.1 in omega arith)

  -- how the server stands then
  pub refused_stands : (refusal : AnswerRefusal) (s s' : ServerView) (old new : Seen H) → s.state ≡ Open → AnswerStep does stops 0 (Err refusal) s old.handler old.log s' new.handler new.log
      → StandsAfter (end_of refusal) s'.state
  refused_stands (refusals.NowClosed cause) s s' old new is_open x = closed_stands cause s'.state (ap (λ (q : ServerView). q.state) x.1)
  refused_stands refusals.OutOfMemory s s' old new is_open x = inl (ap (λ (q : ServerView). q.state) x.2 ∙ is_open)
  refused_stands refusals.Closed s s' old new is_open x = absurd (x.0 is_open)
  refused_stands refusals.NoSuchRequest s s' old new is_open x = inl (ap (λ (q : ServerView). q.state) x.2 ∙ is_open)

  -- ---- replies

  -- what is put behind nothing is all that waits
  out_is : (s s' : ReplyState) (ms : List Message) (n : ℕ) → s.output ≡ [] → s' ≡ put s ms n → written ms ≡ s'.output
  out_is s s' ms n e p = sym (ap (λ q. q.output) p ∙ ap (λ q. q ++ written ms) e)

  -- all replies were sent
  pub replies_sent : (n : ℕ) (s mid after : ServerView) (front gone : List ℕ) (old new : Seen H) → s.waiting ≡ front ∷ []
      → AnswerStep does stops 0 (Ok n) s old.handler old.log mid new.handler new.log
      → s.output ≡ [] → Appends old.sent new.sent gone → mid.output ≡ gone ++ after.output → after ≡ record mid { output = after.output } → after.output ≡ [] → new.failures ≡ old.failures
      → (m : Message) × SpellsMsg m front × AnswersAs does stops s.connection s.limit m (Ok tt) s.next_id after.next_id old new
  replies_sent n s mid after front gone old new only x empty sent cut others all works =
      let m = x.2.0 in
      let a = x.2.2.1 in
      let id = s.next_id in
      let ids : after.next_id ≡ x.2.2.0.next = ap (λ q. q.next_id) others ∙ ap (λ q. q.next_id) x.2.2.2 in
      let whole : gone ≡ x.2.2.0.output = sym (sym (ap (λ q. q.output) x.2.2.2) ∙ cut ∙ ap (λ q. gone ++ q) all ∙ append-nil gone) in
      let is : gone ≡ written (replies id m.id (asked_by m) a.0) = whole ∙ sym (out_is (replies_of s) x.2.2.0 (replies id m.id (asked_by m) a.0) (next_id id (asked_by m) a.0) empty a.3) in
      (m, spelled_front s.waiting front x.2.1.bytes m only x.2.1.at x.2.1.spelled, (works, answered s.connection m a.0 old new a.1, (λ n. cc), subst (Appends old.sent new.sent) is sent, ids ∙ ap (λ q. q.next) a.3))

  -- the link was cut short before all replies were sent
  pub replies_cut : (n : ℕ) (s mid after : ServerView) (front gone : List ℕ) (old new : Seen H) → s.waiting ≡ front ∷ []
      → AnswerStep does stops 0 (Ok n) s old.handler old.log mid new.handler new.log
      → s.output ≡ [] → Appends old.sent new.sent gone → mid.output ≡ gone ++ after.output
      → (m : Message) × SpellsMsg m front × SentPart does stops s.connection m s.next_id old new
  replies_cut n s mid after front gone old new only x empty sent cut =
      let m = x.2.0 in
      let a = x.2.2.1 in
      let id = s.next_id in
      let split : x.2.2.0.output ≡ gone ++ after.output = sym (ap (λ q. q.output) x.2.2.2) ∙ cut in (
        m,
        spelled_front s.waiting front x.2.1.bytes m only x.2.1.at x.2.1.spelled,
        (answered s.connection m a.0 old new a.1, (λ n. cc), gone, after.output, sent, out_is (replies_of s) x.2.2.0 (replies id m.id (asked_by m) a.0) (next_id id (asked_by m) a.0) empty a.3 ∙ split),
      )

  -- the server is open then, whatever was sent of them
  pub answered_open : (n : ℕ) (s mid after : ServerView) (old new : Seen H) → s.state ≡ Open → AnswerStep does stops 0 (Ok n) s old.handler old.log mid new.handler new.log
      → after ≡ record mid { output = after.output } → after.state ≡ Open
  answered_open n s mid after old new is_open x others = ap (λ (q : ServerView). q.state) others ∙ ap (λ (q : ServerView). q.state) x.2.2.2 ∙ is_open

  -- ---- by the acts of the end

  -- what an answer did to the server, the handler and the log
  pub step_of : (k : ℕ) (result : Result ℕ AnswerRefusal) (old new : ServerEnd H) → ServerRun does stops old (Answers k result ∷ []) new
      → AnswerStep does stops k result old.server old.handler old.log new.server new.handler new.log
  step_of k result old new (mid, (step, contents), is) =
      subst (λ (e : ServerEnd H). AnswerStep does stops k result old.server old.handler old.log e.server e.handler e.log) (sym is) step

-- what a flush did to the server: its first bytes are gone, and the others wait
pub flushed : (old new : ServerView) (gone : List ℕ) → ServerMovesOn old (SendsDown gone ∷ []) new
    → (old.output ≡ gone ++ new.output) × (new ≡ record old { output = new.output })
flushed old new gone (mid, (rest, parts, is), same) =
    let left : new.output ≡ rest = ap (λ (s : ServerView). s.output) (same ∙ is) in
    (parts ∙ ap (λ b. gone ++ b) (sym left), same ∙ is ∙ ap (with_server_output old) (sym left))
