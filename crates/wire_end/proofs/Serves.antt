-- Serving at the end of a server: what holds between two requests and while one waits, and how it ends.
use Rattle.std.proofs.Common.{◌≡◌, ◌≢◌, ℕ, ◌+◌, ◌<◌, ◌≤◌, inl, inr, List, [], ◌∷◌, ◌++◌, length, Option, Result, Ok, Err, refl, ap, sym, subst, ◌∙◌, arith, append-nil}
use Rattle.std.specs.Io.KnownBytes.{Keeps}
use Rattle.bson_elem.specs.{IsBytes}
use Rattle.wire_msg.specs.{IsBad, IsMessage, IsOpen, Message, SpellsMsg}
use Rattle.wire_msg.specs.Standing.{in_header}
use Rattle.wire_msg.proofs.Lemmas.{bad_ends, bad_longer, bytes_append, open_ends}
use Rattle.wire_stream.specs.{AddsTurns, Turn}
use Rattle.wire_peer.specs.{Does, ServerView, Stops, end_cause, new_server}
use Rattle.wire_peer.specs.declared.log.Logged.{Logged}
use Rattle.wire_peer.specs.declared.server_state.ServerCause.{ServerCause}
use Rattle.wire_peer.specs.declared.server_state.ServerCause.TheVariants as causes
use Rattle.wire_peer.specs.declared.server_state.ServerState.TheVariants.{Closed, Open}
use Rattle.wire_model.specs.{ServerAct, bytes_taken_up}
use Rattle.wire_end.specs.Answering.{AnswersAs, CountsLater, StandsAfter, WaitsAlone, end_by, end_with}
use Rattle.wire_end.specs.NextRequests.{Closes, HasGoodHeader, RequestComes, RequestFails, RequestLater}
use Rattle.wire_end.specs.Turns.{AreBetween}
use Rattle.wire_end.specs.ServerEnds.{ServerEndMoves, ServerEndRuns, ServerEndSeen}
use Rattle.wire_end.specs.Serving.{AllSent, EndsAs, IsUnused, Seen, Served, seen}
use Rattle.wire_end.specs.declared.next.NextRequest.TheVariants.{Full, Later, Waits}
use Rattle.wire_end.specs.declared.next.RequestFault.{RequestFault}
use Rattle.wire_end.specs.declared.next.RequestFault.TheVariants as faults
use Rattle.wire_end.specs.declared.serving.ServeEnd.{ServeEnd}
use Rattle.wire_end.specs.declared.serving.ServeEnd.TheVariants as end
use Rattle.wire_end.proofs.OneAnswer.{closed_stands}
use Rattle.wire_end.proofs.Progress.{Progress, all_sent, answers_as, ends_answer, ends_budget, progress_came, progress_sent, progress_start, rose_from, served_by}
use Rattle.wire_end.proofs.ServerRuns.{end_runs_on, moves_runs, nothing_done}

-- ---- the causes by which a link's end closes a server

ended_none : (bytes : List ℕ) → causes.Ended ≡ end_cause bytes → bytes ≡ []
ended_none [] is = refl
ended_none (x ∷ bytes) is = absurd cc

inside_some : (bytes : List ℕ) → causes.EndedInside ≡ end_cause bytes → bytes ≢ []
inside_some [] is none = absurd cc
inside_some (x ∷ bytes) is none = absurd cc

not_large : (bytes : List ℕ) → causes.ReplyTooLarge ≡ end_cause bytes → ⊥
not_large [] is = absurd cc
not_large (x ∷ bytes) is = absurd cc

not_memory : (bytes : List ℕ) → causes.NoMemory ≡ end_cause bytes → ⊥
not_memory [] is = absurd cc
not_memory (x ∷ bytes) is = absurd cc

not_failed : (bytes : List ℕ) → causes.HandlerFailed ≡ end_cause bytes → ⊥
not_failed [] is = absurd cc
not_failed (x ∷ bytes) is = absurd cc

-- the server as it was made, but for its next id
abbrev resting : {L : Type 0} → ServerEndSeen L → ℕ → ServerView
resting first id = record (new_server first.server.connection first.server.window first.server.limit) { next_id = id }

module _ {H L : Type 0} (does : Does H) (stops : Stops H) (received sent : L → Option (List ℕ)) (turns : L → Option (List Turn)) (failures ends waits : L → ℕ) where
  abbrev at : Logged H → ServerEndSeen L → Seen H
  at logged e = seen received sent turns failures ends waits logged e.link

  abbrev Runs : ServerEndSeen L → Logged H → ServerEndSeen L → Logged H → Type 0
  Runs first from e logged = (acts : List ServerAct) × ServerEndRuns does stops sent received first from acts e logged

  pub ran_on : (first a b : ServerEndSeen L) (from l m : Logged H) → Runs first from a l → Runs a l b m → Runs first from b m
  ran_on first a b from l m (acts, r) (more, s) = (acts ++ more, end_runs_on sent received does stops first a b from l m acts more r s)

  pub moved_on : (first a b : ServerEndSeen L) (from l : Logged H) (acts : List ServerAct) → Runs first from a l → ServerEndMoves sent received a acts b → Runs first from b l
  moved_on first a b from l acts r moves = ran_on first a b from l l r (acts, moves_runs sent received does stops a b acts l moves)

  -- Between two requests: as many as this were answered, and all their replies sent.
  pub record Rests (first : ServerEndSeen L) (from : Logged H) (e : ServerEndSeen L) (logged : Logged H) (count : ℕ) : Type 0 where
    pub same : e.server ≡ resting first e.server.next_id
    pub room : 1 ≤ first.server.window
    pub works : failures e.link ≡ failures first.link
    pub told : ends e.link ≡ ends first.link
    pub idle : waits e.link ≡ waits first.link
    pub progress : Progress does stops first.server.connection first.server.limit (at from first) (at logged e) count e.server.next_id e.inlet
    pub ran : Runs first from e logged

  -- One more request came, and is the only one that waits.
  pub record Asked (first : ServerEndSeen L) (from : Logged H) (e : ServerEndSeen L) (logged : Logged H) (count : ℕ) : Type 0 where
    pub request : List ℕ
    pub alone : WaitsAlone e.server request
    pub same : e.server ≡ record (resting first e.server.next_id) { waiting = request ∷ [] }
    pub room : 1 ≤ first.server.window
    pub works : failures e.link ≡ failures first.link
    pub told : ends e.link ≡ ends first.link
    pub idle : waits e.link ≡ waits first.link
    pub progress : Progress does stops first.server.connection first.server.limit (at from first) (at logged e) count e.server.next_id (request ++ e.inlet)
    pub ran : Runs first from e logged

  pub rests_first : (first : ServerEndSeen L) (from : Logged H) → IsUnused first → Rests first from first from 0
  rests_first first from (room, is) =
      let server : first.server ≡ resting first 1 = ap (λ (e : ServerEndSeen L). e.server) is in
      let id : first.server.next_id ≡ 1 = ap (λ (s : ServerView). s.next_id) server in
      let none : first.inlet ≡ [] = ap (λ (e : ServerEndSeen L). e.inlet) is in
      record {
        same = server ∙ ap (resting first) (sym id);
        room = room;
        works = refl;
        told = refl;
        idle = refl;
        progress = rw (id, none) (progress_start does stops first.server.connection first.server.limit (at from first));
        ran = ([], moves_runs sent received does stops first first [] from (nothing_done sent received first));
      }

  -- ---- a request comes, or none

  module _ (first : ServerEndSeen L) (from : Logged H) (e : ServerEndSeen L) (logged : Logged H) (k : ℕ) (rests : Rests first from e logged k) (new : ServerEndSeen L) (acts : List ServerAct)
      (moves : ServerEndMoves sent received e acts new) (kept : Keeps (sent e.link) (sent new.link))
      (turned : (ts : List Turn) × AddsTurns (turns e.link) (turns new.link) ts × AreBetween e.server.limit (received e.link) (sent e.link) (e.server.held ++ e.inlet) ts) where
    abbrev request : List ℕ
    request = e.server.held ++ bytes_taken_up acts

    none_held : e.server.held ≡ []
    none_held = ap (λ (s : ServerView). s.held) rests.same

    limit_is : e.server.limit ≡ first.server.limit
    limit_is = ap (λ (s : ServerView). s.limit) rests.same

    is_live : e.server.state ≡ Open
    is_live = ap (λ (s : ServerView). s.state) rests.same

    none_waits : e.server.waiting ≡ []
    none_waits = ap (λ (s : ServerView). s.waiting) rests.same

    came : Progress does stops first.server.connection first.server.limit (at from first) (at logged new) k e.server.next_id (request ++ new.inlet)
    came = progress_came does stops first.server.connection first.server.limit e.server.limit (at from first) (at logged e) (at logged new) k e.server.next_id e.inlet (request ++ new.inlet) moves.bytes.came
        rests.progress moves.bytes.receives (ap (λ (b : List ℕ). (b ++ bytes_taken_up acts) ++ new.inlet) none_held ∙ sym moves.bytes.taken) kept limit_is
        (turned.0, turned.1, subst (λ (b : List ℕ). AreBetween e.server.limit (received e.link) (sent e.link) (b ++ e.inlet) turned.0) none_held turned.2) refl refl

    are_bytes : IsBytes request
    are_bytes = subst (λ (b : List ℕ). IsBytes (b ++ bytes_taken_up acts)) (sym none_held) moves.bytes.are_bytes

    pub ran_so : Runs first from new logged
    ran_so = moved_on first e new from logged acts rests.ran moves

    sent_all : AllSent came.ms came.made came.gave
    sent_all = all_sent does stops first.server.connection first.server.limit (at from first) (at logged new) k e.server.next_id (request ++ new.inlet) came

    fewer : (budget : ℕ) → k < budget → length came.made < budget
    fewer budget lt = let counted = came.counted in omega arith

    abbrev Ends : ℕ → ServeEnd → Type 0
    Ends budget e' = Served does stops first.server.connection first.server.limit budget e' (at from first) (at logged new)

    -- no request came, over these bytes
    ended : (budget : ℕ) (e' : ServeEnd) (rest : List ℕ) → k < budget → request ++ new.inlet ≡ rest
        → ((p : Progress does stops first.server.connection first.server.limit (at from first) (at logged new) k e.server.next_id rest) → AllSent p.ms p.made p.gave → length p.made < budget
        → EndsAs does stops first.server.limit budget e' (at from first) (at logged new) p.ms p.made (p.joined ++ rest) p.gave rest)
        → Ends budget e'
    ended budget e' rest lt is so =
        let p : Progress does stops first.server.connection first.server.limit (at from first) (at logged new) k e.server.next_id rest = subst (Progress does stops first.server.connection first.server.limit (at from first) (at logged new) k e.server.next_id) is came in
        let count : length p.made < budget = (let counted = p.counted in omega arith) in
        served_by does stops first.server.connection first.server.limit budget e' (at from first) (at logged new) k e.server.next_id rest p (omega arith)
        (so p (all_sent does stops first.server.connection first.server.limit (at from first) (at logged new) k e.server.next_id rest p) count)

    -- the link has no more now
    pub ends_later : (budget : ℕ) → k < budget → RequestComes ends (Ok Later) request e new → RequestLater (Ok Later) (waits e.link) (waits new.link)
        → RequestFails (Ok Later) (failures e.link) (failures new.link) → Ends budget end.Later
    ends_later budget lt x later fails = ended budget end.Later (request ++ new.inlet) lt refl (λ p all count. (
      fails ∙ rests.works,
      x.0.told ∙ rests.told,
      rose_from (waits first.link) (waits e.link) (waits new.link) rests.idle later,
      (p.answered, inl (count, all)),
    ))

    -- the link told its end, or what came is no message
    by_cause : (budget : ℕ) (cause : ServerCause) → k < budget → failures new.link ≡ failures first.link → Closes ends cause request e new → Ends budget (end_by cause)
    by_cause budget (causes.Message fault) lt works (is_bad, more, is, told) =
        let bad = bad_longer first.server.limit request new.inlet fault (subst (λ (n : ℕ). IsBad n request fault) limit_is is_bad) in
        ended budget (end.Fault fault) (request ++ new.inlet) lt refl (λ p all count. (
          works,
          told ∙ rests.told,
          count,
          all,
          bad_ends first.server.limit p.ms p.joined (request ++ new.inlet) fault (bytes_append request new.inlet are_bytes more) p.spelled bad,
          bad,
        ))
    by_cause budget causes.Ended lt works (is_open, for, none, is, rose) =
        let empty : request ≡ [] = ended_none request for in
        ended budget end.Ended [] lt (rw (empty, none) refl) (λ p all count. (
          works,
          rose_from (ends first.link) (ends e.link) (ends new.link) rests.told rose,
          count,
          all,
          open_ends first.server.limit p.ms p.joined [] p.spelled (in_header (omega arith)),
          refl,
        ))
    by_cause budget causes.EndedInside lt works (is_open, for, none, is, rose) =
        let still = subst (λ (n : ℕ). IsOpen n request) limit_is is_open in
        ended budget end.EndedInside request lt (ap (λ (b : List ℕ). request ++ b) none ∙ append-nil request) (λ p all count. (
          works,
          rose_from (ends first.link) (ends e.link) (ends new.link) rests.told rose,
          count,
          all,
          open_ends first.server.limit p.ms p.joined request p.spelled still,
          inside_some request for,
          still,
        ))
    by_cause budget causes.ReplyTooLarge lt works (is_open, for, none, is, rose) = absurd (not_large request for)
    by_cause budget causes.NoMemory lt works (is_open, for, none, is, rose) = absurd (not_memory request for)
    by_cause budget causes.HandlerFailed lt works (is_open, for, none, is, rose) = absurd (not_failed request for)

    pub ends_fault : (budget : ℕ) (fault : RequestFault) → k < budget → RequestComes ends (Err fault) request e new → RequestFails (Err fault) (failures e.link) (failures new.link) → Ends budget (end_with fault)
    ends_fault budget (faults.Link fault) lt x fails = ended budget end.Link (request ++ new.inlet) lt refl (λ p all count. (
      rose_from (failures first.link) (failures e.link) (failures new.link) rests.works fails,
      x.told ∙ rests.told,
      (p.answered, inl (count, all)),
    ))
    ends_fault budget faults.OutOfMemory lt x fails =
        let header = subst (λ (n : ℕ). HasGoodHeader n (request ++ new.inlet)) limit_is x.1 in
        ended budget end.OutOfMemory (request ++ new.inlet) lt refl (λ p all count. (fails ∙ rests.works, x.0.told ∙ rests.told, inl (all, count, header)))
    ends_fault budget (faults.Closed cause) lt (inl (shut, same)) fails = absurd (let live = is_live in cc)
    ends_fault budget (faults.Closed cause) lt (inr (takes, closes)) fails = by_cause budget cause lt (fails ∙ rests.works) closes

    -- ---- how the server stands then

    pub stands_later : RequestComes ends (Ok Later) request e new → StandsAfter end.Later new.server.state
    stands_later x = ap (λ (s : ServerView). s.state) x.0.same ∙ is_live

    closed_by : (cause : ServerCause) → Closes ends cause request e new → new.server.state ≡ Closed cause
    closed_by (causes.Message fault) (is_bad, more, is, told) = ap (λ (s : ServerView). s.state) is
    closed_by causes.Ended (is_open, for, none, is, rose) = ap (λ (s : ServerView). s.state) is
    closed_by causes.EndedInside (is_open, for, none, is, rose) = ap (λ (s : ServerView). s.state) is
    closed_by causes.ReplyTooLarge (is_open, for, none, is, rose) = ap (λ (s : ServerView). s.state) is
    closed_by causes.NoMemory (is_open, for, none, is, rose) = ap (λ (s : ServerView). s.state) is
    closed_by causes.HandlerFailed (is_open, for, none, is, rose) = ap (λ (s : ServerView). s.state) is

    pub stands_fault : (fault : RequestFault) → RequestComes ends (Err fault) request e new → StandsAfter (end_with fault) new.server.state
    stands_fault (faults.Link fault) x = ap (λ (s : ServerView). s.state) x.same ∙ is_live
    stands_fault faults.OutOfMemory x = inl (ap (λ (s : ServerView). s.state) x.0.same ∙ is_live)
    stands_fault (faults.Closed cause) (inl (shut, same)) = absurd (let live = is_live in cc)
    stands_fault (faults.Closed cause) (inr (takes, closes)) = closed_stands cause new.server.state (closed_by cause closes)

    -- ---- a request comes, or none can

    -- as many as may wait already
    pub never_full : RequestComes ends (Ok Full) request e new → ⊥
    never_full x =
        let room = rests.room in
        let window : e.server.window ≡ first.server.window = ap (λ (s : ServerView). s.window) rests.same in
        let none : length e.server.waiting ≡ 0 = ap length none_waits in
        let full = x.1 in
        absurd (omega arith)

    -- a request waits
    pub asked : RequestComes ends (Ok Waits) request e new → RequestLater (Ok Waits) (waits e.link) (waits new.link) → RequestFails (Ok Waits) (failures e.link) (failures new.link)
        → Asked first from new logged k
    asked x later fails =
        let is : new.server ≡ record (resting first e.server.next_id) { waiting = request ∷ [] } =
        x.2 ∙ ap (λ (s : ServerView). record s { held = []; waiting = s.waiting ++ request ∷ [] }) rests.same in
        let id : new.server.next_id ≡ e.server.next_id = ap (λ (s : ServerView). s.next_id) is in
        let limit : new.server.limit ≡ e.server.limit = ap (λ (s : ServerView). s.limit) is ∙ sym limit_is in
        record {
          request = request;
          alone = record {
            is_open = ap (λ (s : ServerView). s.state) is;
            one = ap (λ (s : ServerView). s.waiting) is;
            whole = subst (λ (n : ℕ). IsMessage n request) (sym limit) x.1;
            sent = ap (λ (s : ServerView). s.output) is;
          };
          same = is ∙ ap (λ (n : ℕ). record (resting first n) { waiting = request ∷ [] }) (sym id);
          room = rests.room;
          works = fails ∙ rests.works;
          told = x.3 ∙ rests.told;
          idle = later ∙ rests.idle;
          progress = subst (λ (n : ℕ). Progress does stops first.server.connection first.server.limit (at from first) (at logged new) k n (request ++ new.inlet)) (sym id) came;
          ran = ran_so;
        }

  -- ---- the request is answered, or not

  module _ (first : ServerEndSeen L) (from : Logged H) (e : ServerEndSeen L) (logged : Logged H) (k : ℕ) (asked : Asked first from e logged k) (new : ServerEndSeen L) (after : Logged H)
      (ran : Runs e logged new after) (inlet : new.inlet ≡ e.inlet) (received_none : Keeps (received e.link) (received new.link)) (turned : AddsTurns (turns e.link) (turns new.link) [])
      (told : ends new.link ≡ ends e.link) where
    limit_so : e.server.limit ≡ first.server.limit
    limit_so = ap (λ (s : ServerView). s.limit) asked.same

    connection_so : e.server.connection ≡ first.server.connection
    connection_so = ap (λ (s : ServerView). s.connection) asked.same

    within : length asked.request ≤ first.server.limit
    within = subst (λ (n : ℕ). length asked.request ≤ n) limit_so asked.alone.whole.0

    answers_so : (m : Message) (r : Result (Unit {0}) ServeEnd) → AnswersAs does stops e.server.connection e.server.limit m r e.server.next_id new.server.next_id (at logged e) (at after new)
        → AnswersAs does stops first.server.connection first.server.limit m r e.server.next_id new.server.next_id (at logged e) (at after new)
    answers_so m r x = answers_as does stops e.server.connection first.server.connection e.server.limit first.server.limit e.server.next_id e.server.next_id new.server.next_id m r (at logged e) (at after new)
        connection_so limit_so refl x

    pub ran_through : Runs first from new after
    ran_through = ran_on first e new from logged after asked.ran ran

    pub ends_unanswered : (budget : ℕ) (e' : ServeEnd) (m : Message) → k < budget → SpellsMsg m asked.request
        → AnswersAs does stops e.server.connection e.server.limit m (Err e') e.server.next_id new.server.next_id (at logged e) (at after new)
        → CountsLater (Err e') (waits e.link) (waits new.link) → Served does stops first.server.connection first.server.limit budget e' (at from first) (at after new)
    ends_unanswered budget e' m lt spells x later =
        ends_answer does stops first.server.connection first.server.limit budget e' (at from first) (at logged e) (at after new) k e.server.next_id new.server.next_id m asked.request e.inlet
        asked.progress spells within received_none turned lt asked.works (told ∙ asked.told) asked.idle later (answers_so m (Err e') x)

    pub rests_again : (m : Message) → SpellsMsg m asked.request
        → AnswersAs does stops e.server.connection e.server.limit m (Ok tt) e.server.next_id new.server.next_id (at logged e) (at after new)
        → new.server ≡ record (e.server) { waiting = []; output = []; next_id = new.server.next_id }
        → CountsLater (Ok tt) (waits e.link) (waits new.link) → Rests first from new after (k + 1)
    rests_again m spells x is later = record {
      same = is ∙ ap (λ (s : ServerView). record s { waiting = []; output = []; next_id = new.server.next_id }) asked.same;
      room = asked.room;
      works = x.0 ∙ asked.works;
      told = told ∙ asked.told;
      idle = later ∙ asked.idle;
      progress = subst (Progress does stops first.server.connection first.server.limit (at from first) (at after new) (k + 1) new.server.next_id) (sym inlet)
          (progress_sent does stops first.server.connection first.server.limit (at from first) (at logged e) (at after new) k e.server.next_id new.server.next_id m asked.request e.inlet
          asked.progress spells within received_none turned (answers_so m (Ok tt) x));
      ran = ran_through;
    }

  -- as many were answered as may be
  pub ends_spent : (first : ServerEndSeen L) (from : Logged H) (e : ServerEndSeen L) (logged : Logged H) (k budget : ℕ) → Rests first from e logged k → k ≡ budget
      → Served does stops first.server.connection first.server.limit budget end.Budget (at from first) (at logged e)
  ends_spent first from e logged k budget rests all =
      ends_budget does stops first.server.connection first.server.limit budget (at from first) (at logged e) k e.server.next_id e.inlet rests.progress all rests.works rests.told
