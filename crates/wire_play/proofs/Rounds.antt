-- One call after another over a client's end: each is asked, and its reply is taken.
use Rattle.std.proofs.Common.{◌≡◌, ◌∙◌, ◌<◌, ◌≤◌, ◌+◌, ◌++◌, ◌^◌, ℕ, zero, suc, add-one, ap, refl, sym, subst, List, [], ◌∷◌, append_assoc, append-nil, take, get_or, length, length-append, map, Option, None, Some, Result, Ok, Err, arith, inl, inr}
use Rattle.std.specs.Prelude.{ℤ, pos, Contains, Bool, true, false, ◌⊎◌, not, is_some, IsTrue, ◌↔◌, slice_get, slice_set}
use Rattle.std.specs.Borrow.{Bor}
use Rattle.std.specs.Ordering.{int_eq}
use Rattle.std.specs.Io.KnownBytes.{Appends}
use Rattle.std.proofs.KnownBytes.{Appends-trans}
use Rattle.std.proofs.Math.Seq.{take-length}
use Rattle.std.proofs.lemmas.Option.{same_Some}
use Rattle.bson_elem.specs.{Spells, Tree}
use Rattle.bson_elem.proofs.Lemmas.{same_front}
use Rattle.wire_msg.specs.{Content, Message, Sequence, SpellsMsg, body_alone, canonical}
use Rattle.wire_msg.specs.Sequences.{GivesSequence, SequenceStepsTo, SequencesLeft}
use Rattle.wire_msg.specs.declared.document_iter.Documents.{Documents}
use Rattle.wire_msg.specs.declared.payloads.Payload.{Payload}
use Rattle.wire_msg.specs.declared.sequence_iter.SequencesIter.{SequencesIter}
use Rattle.wire_peer.specs.{ClientSeen, IsFirstFree, MayTake, Settles, Table, allowed, called, content_of, holding, id_following, id_past, ids, number_after, owner, released, request, without}
use Rattle.wire_peer.specs.ClientSteps.{after_release, received, state_after, is_open, is_message, is_bad}
use Rattle.wire_peer.specs.declared.call_table.Outstanding.{Outstanding}
use Rattle.wire_peer.specs.declared.call_table.ReadyReply.{ReadyReply}
use Rattle.wire_peer.specs.declared.client_state.ClientCause.{ClientCause}
use Rattle.wire_peer.specs.declared.client_state.ClientCause.TheVariants as causes
use Rattle.wire_peer.specs.declared.client_state.ClientState.{ClientState}
use Rattle.wire_peer.specs.declared.client_state.ClientState.TheVariants.{Open, Closed}
use Rattle.wire_peer.specs.declared.calls.CallKind.TheVariants.{Plain}
use Rattle.wire_peer.specs.declared.calls.CallNo.{CallNo}
use Rattle.wire_model.specs.{ClientAct, ClientEnd, ClientRun, Record, asked_as, bytes_sent, bytes_taken, given_record, new_record, put_at}
use Rattle.wire_model.proofs.Lemmas.{get-push_new, taken_on}
use Rattle.wire_model.specs.Owners.{Calls, Collects, SendsUp, TakesDown}
use Rattle.wire_end.specs.{EndRuns, EndSeen}
use Rattle.wire_play.specs.Calling.{AreComplete, IsIdle, call_body, done_call, done_calls}
use Rattle.wire_play.specs.Loopback.{GetsReply, arrived, request_bytes}

-- ---- how a client stands in a call

abbrev asking : ℕ → Outstanding
asking k = record { call = k; kind = Plain; last = None }

-- the call of number k is outstanding, alone, and its request was sent
record Awaits (k : ℕ) (client : ClientSeen) : Type 0 where
  number : client.requests.next_number ≡ Some (k + 1)
  id : client.requests.next_id ≡ pos (k + 1 + 1)
  outstanding : client.requests.outstanding ≡ (pos (k + 1), asking k) ∷ []
  ready : client.reply ≡ None
  state : client.state ≡ Open
  sent : client.requests.output ≡ []

-- its reply is ready, and no other one comes
record HasReply (k : ℕ) (client : ClientSeen) : Type 0 where
  number : client.requests.next_number ≡ Some (k + 1)
  id : client.requests.next_id ≡ pos (k + 1 + 1)
  outstanding : client.requests.outstanding ≡ []
  ready : client.reply ≡ Some (record { call = k; last = true })
  state : client.state ≡ Open
  sent : client.requests.output ≡ []

-- ---- the call is made, and its request is sent

-- where no id is used, the first free one is the next
first_is_next : (next id : ℤ) → IsFirstFree next [] id → id ≡ next
first_is_next next id free = go free.places free.is (free.before 0)
  where
    go : (places : ℕ) → id ≡ id_past next places → (0 < places → Contains [] (id_past next 0)) → id ≡ next
    go zero is before = is
    go (suc n) is before =
        let used = before (omega arith) in
        absurd (omega (arith, used.1))

following : (k : ℕ) → k < 2 ^ 8 → id_following (pos (k + 1)) ≡ pos (k + 1 + 1)
following k small = grind arith

numbered : (k : ℕ) → k < 2 ^ 8 → number_after k ≡ Some (k + 1)
numbered k small = grind arith

some_same : (x y : ℕ) → Some x ≡ Some y → x ≡ y
some_same x y e = cc

-- what is known of a call when its request was sent
record IsAsked (k : ℕ) (c : Content) (call : CallNo) (gone : List ℕ) (old new : ClientEnd) : Type 0 where
  number : call.number ≡ k
  id : call.id ≡ pos (k + 1)
  gone_is : gone ≡ canonical (request (pos (k + 1)) Plain c)
  awaits : Awaits k new.client
  held : new.client.held ≡ old.client.held
  records : new.records ≡ old.records ++ new_record 1 (asked_as Plain c) ∷ []

asked : (k : ℕ) (payload : Payload) (call : CallNo) (gone : List ℕ) (old new : ClientEnd) → k < 2 ^ 8 → IsIdle k old.client
    → ClientRun 1 old (Calls Plain payload call ∷ SendsUp gone ∷ []) new → new.client.requests.output ≡ [] → IsAsked k (content_of payload) call gone old new
asked k payload call gone old new small idle (m, (may, m_is), (m', (rest, parts, m'_is), new_is)) all =
    let c : Content = content_of payload in
    let number : call.number ≡ k = some_same call.number k (sym may.1.next.number ∙ idle.number) in
    let free : IsFirstFree (pos (k + 1)) [] call.id = rw (sym idle.id, ap ids (sym idle.outstanding)) may.1.next.id in
    let id : call.id ≡ pos (k + 1) = first_is_next (pos (k + 1)) call.id free in
    let after : ClientSeen = called old.client Plain c call in
    let m_client : m.client ≡ after = ap (λ (x : ClientEnd). x.client) m_is in
    let n_client : new.client ≡ record (m.client) { requests = record (m.client.requests) { output = rest } } = ap (λ (x : ClientEnd). x.client) (new_is ∙ m'_is) in
    let none : rest ≡ [] = sym (ap (λ (x : ClientSeen). x.requests.output) n_client) ∙ all in
    let client : new.client ≡ record after { requests = record (after.requests) { output = [] } } =
    n_client
    ∙ ap (λ (out : List ℕ). let x : ClientSeen = record (m.client) { requests = record (m.client.requests) { output = out } } in x) none
    ∙ ap (λ (x : ClientSeen). let y : ClientSeen = record x { requests = record (x.requests) { output = [] } } in y) m_client in
    record {
      number = number;
      id = id;
      gone_is =
          sym (append-nil gone)
          ∙ ap (λ (x : List ℕ). gone ++ x) (sym none)
          ∙ sym parts
          ∙ ap (λ (x : ClientSeen). x.requests.output) m_client
          ∙ ap (λ (x : List ℕ). x ++ canonical (request call.id Plain c)) idle.sent
          ∙ ap (λ (z : ℤ). canonical (request z Plain c)) id;
      awaits = subst (Awaits k) (sym client) (record {
        number = ap number_after number ∙ numbered k small;
        id = ap id_following id ∙ following k small;
        outstanding = rw (idle.outstanding, number, id) refl;
        ready = idle.ready;
        state = idle.state;
        sent = refl;
      });
      held = ap (λ (x : ClientSeen). x.held) client;
      records = ap (λ (x : ClientEnd). x.records) (new_is ∙ m'_is) ∙ ap (λ (x : ClientEnd). x.records) m_is;
    }

-- ---- its reply comes

-- a message is the last reply to the only outstanding call, or belongs to none
only_owner : (k : ℕ) (id to : ℤ) (more : Bool) → let t : Table = (id, asking k) ∷ [] in
    ((allowed more (owner t to) ≡ Ok (to, asking k)) × (more ≡ false) × (without to t ≡ [])) ⊎ ((cause : ClientCause) × (allowed more (owner t to) ≡ Err cause))
only_owner k id to more = by (int_eq to id) more refl
  where
    by : (b more' : Bool) → int_eq to id ≡ b → let t : Table = (id, asking k) ∷ [] in
        ((allowed more' (owner t to) ≡ Ok (to, asking k)) × (more' ≡ false) × (without to t ≡ [])) ⊎ ((cause : ClientCause) × (allowed more' (owner t to) ≡ Err cause))
    by true false e = inl (rw e refl, refl, rw e refl)
    by true true e = inr (causes.MoreNotAllowed, rw e refl)
    by false more' e = inr (causes.UnknownReply to, rw e refl)

-- a client that awaited a reply awaits it still, or has it, or is closed
data Stage (k : ℕ) (old new : ClientSeen) : Type 0 where
  still : Awaits k new → Stage k old new
  has : HasReply k new → Stage k old new
  shut : (cause : ClientCause) → new.reply ≡ None → new.state ≡ Closed cause → Stage k old new

settled : (k : ℕ) (old new : ClientSeen) → Awaits k old → Settles old new → Stage k old new
settled k old new a (is_open o e) = still (subst (Awaits k) (sym e) a)
settled k old new a (is_bad f b e) =
    shut (causes.Message f) (ap (λ (x : ClientSeen). x.reply) e ∙ a.ready)
    (ap (λ (x : ClientSeen). x.state) e ∙ ap (λ (s : ClientState). state_after s (causes.Message f)) a.state)
settled k old new a (is_message m s w e) =
    let t : Table = old.requests.outstanding in
    let r : Result (ℤ × Outstanding) ClientCause = allowed m.flags.more_to_come (owner t m.response_to) in
    let same : r ≡ allowed m.flags.more_to_come (owner ((pos (k + 1), asking k) ∷ []) m.response_to) =
    ap (λ (x : Table). allowed m.flags.more_to_come (owner x m.response_to)) a.outstanding in
    elim (only_owner k (pos (k + 1)) m.response_to m.flags.more_to_come) [
      | inl w ↦
          let is : new ≡ received old m (Ok (m.response_to, asking k)) = e ∙ ap (received old m) (same ∙ w.0) in
          has (subst (HasReply k) (sym is) (record {
            number = a.number;
            id = a.id;
            outstanding = rw (w.1, a.outstanding) w.2;
            ready = rw w.1 refl;
            state = a.state;
            sent = a.sent;
          }))
      | inr w ↦
          let is : new ≡ received old m (Err w.0) = e ∙ ap (received old m) (same ∙ w.1) in
          shut w.0 (ap (λ (x : ClientSeen). x.reply) is ∙ a.ready)
          (ap (λ (x : ClientSeen). x.state) is ∙ ap (λ (s : ClientState). state_after s w.0) a.state)
    ]

held_by : (old new : ClientSeen) → Settles old new → new.held ≡ old.held
held_by old new (is_open o e) = ap (λ (x : ClientSeen). x.held) e
held_by old new (is_bad f b e) = ap (λ (x : ClientSeen). x.held) e
held_by old new (is_message m s w e) = ap (λ (x : ClientSeen). x.held) e ∙ by (allowed m.flags.more_to_come (owner old.requests.outstanding m.response_to))
  where
    by : (r : Result (ℤ × Outstanding) ClientCause) → (received old m r).held ≡ old.held
    by (Ok o) = refl
    by (Err cause) = refl

-- a reply that is ready after these pieces were taken is the reply to the call
record IsReplied (k : ℕ) (reply : ReadyReply) (pieces : List (List ℕ)) (old new : ClientEnd) : Type 0 where
  reply_is : reply ≡ record { call = k; last = true }
  has_reply : HasReply k new.client
  held : new.client.held ≡ old.client.held ++ bytes_taken (map TakesDown pieces)
  records : new.records ≡ old.records

none_left : (pieces : List (List ℕ)) (old new : ClientEnd) → (MayTake old.client → ⊥) → ClientRun 1 old (map TakesDown pieces) new
    → (pieces ≡ []) × (new ≡ old)
none_left [] old new not run = (refl, run)
none_left (p ∷ pieces) old new not (mid, (client, takes, is), run) = absurd (not takes.may)

replied : (k : ℕ) (reply : ReadyReply) (pieces : List (List ℕ)) (old new : ClientEnd) → Awaits k old.client → ClientRun 1 old (map TakesDown pieces) new
    → new.client.reply ≡ Some reply → IsReplied k reply pieces old new
replied k reply [] old new a run ready =
    let none : new.client.reply ≡ None = ap (λ (x : ClientEnd). x.client.reply) run ∙ a.ready in
    absurd cc
replied k reply (p ∷ pieces) old new a (mid, (client, takes, is), run) ready =
    let from : ClientSeen = holding old.client (old.client.held ++ take (length p) p) in
    let from_awaits : Awaits k from = record { number = a.number; id = a.id; outstanding = a.outstanding; ready = a.ready; state = a.state; sent = a.sent } in
    let mid_client : mid.client ≡ client = ap (λ (x : ClientEnd). x.client) is in
    let mid_records : mid.records ≡ old.records = ap (λ (x : ClientEnd). x.records) is in
    let mid_held : mid.client.held ≡ old.client.held ++ p =
    ap (λ (x : ClientSeen). x.held) mid_client ∙ held_by from client takes.takes.settles ∙ ap (λ (x : List ℕ). old.client.held ++ x) (take-length p) in
    elim (settled k from client from_awaits takes.takes.settles) [
      | still s ↦
          let r = replied k reply pieces mid new (subst (Awaits k) (sym mid_client) s) run ready in
          record {
            reply_is = r.reply_is;
            has_reply = r.has_reply;
            held = r.held ∙ ap (λ (x : List ℕ). x ++ bytes_taken (map TakesDown pieces)) mid_held ∙ append_assoc old.client.held p (bytes_taken (map TakesDown pieces));
            records = r.records ∙ mid_records;
          }
      | has s ↦
          let mid_has : HasReply k mid.client = subst (HasReply k) (sym mid_client) s in
          let none = none_left pieces mid new (λ may. let taken = may.0 in let there = mid_has.ready in cc) run in
          record {
            reply_is = same_Some reply (record { call = k; last = true })
                (sym ready ∙ ap (λ (x : ClientEnd). x.client.reply) none.1 ∙ mid_has.ready);
            has_reply = subst (λ (x : ClientEnd). HasReply k x.client) (sym none.1) mid_has;
            held = ap (λ (x : ClientEnd). x.client.held) none.1 ∙ mid_held
                ∙ ap (λ (x : List ℕ). old.client.held ++ x) (sym (append-nil p))
                ∙ ap (λ (x : List (List ℕ)). old.client.held ++ (p ++ bytes_taken (map TakesDown x))) (sym none.0);
            records = ap (λ (x : ClientEnd). x.records) none.1 ∙ mid_records;
          }
      | shut cause none_ready closed ↦
          let none = none_left pieces mid new (λ may. let live = may.1 in let dead = ap (λ (x : ClientSeen). x.state) mid_client ∙ closed in cc) run in
          let never : new.client.reply ≡ None = ap (λ (x : ClientEnd). x.client.reply) none.1 ∙ ap (λ (x : ClientSeen). x.reply) mid_client ∙ none_ready in
          absurd cc
    ]

-- ---- its reply is taken

-- a run over acts and then more is one over the acts, and then one over the others
parted : (c : ℕ) (acts more : List ClientAct) (old new : ClientEnd) → ClientRun c old (acts ++ more) new
    → (mid : ClientEnd) × ClientRun c old acts mid × ClientRun c mid more new
parted c [] more old new run = (old, refl, run)
parted c (a ∷ acts) more old new (next, one, rest) =
    let p = parted c acts more next new rest in
    (p.0, (next, one, p.1), p.2)

-- a reply that is let go of
released_idle : (k : ℕ) (old : ClientSeen) → HasReply k old → IsIdle (k + 1) (released old)
released_idle k old a =
    subst (λ (r : Option ReadyReply). IsIdle (k + 1) (after_release r old)) (sym a.ready)
    (record { number = a.number; id = a.id; outstanding = a.outstanding; ready = refl; state = a.state; sent = a.sent })

-- nothing is held behind it
released-held : (k : ℕ) (old : ClientSeen) → HasReply k old → (released old).held ≡ []
released-held k old a = subst (λ (r : Option ReadyReply). (after_release r old).held ≡ []) (sym a.ready) refl

set-last : {A : Type 0} (xs : List A) (x y : A) → slice_set (xs ++ x ∷ []) (length xs) y ≡ xs ++ y ∷ []
set-last [] x y = refl
set-last (z ∷ xs) x y = ap (λ zs. z ∷ zs) (set-last xs x y)

so_many : (k : ℕ) → length (done_calls k) ≡ k
so_many zero = refl
so_many (suc k) =
    let n : length (done_calls k) ≡ k = so_many k in
    omega (arith, length-append (done_calls k) (done_call k ∷ []), n)

-- the last one of the records is given a part
given_last : (xs : List Record) (k : ℕ) (x : Record) (part : Content) → length xs ≡ k
    → put_at (Some k) part true (xs ++ x ∷ []) ≡ xs ++ given_record x part true ∷ []
given_last xs k x part is =
    subst (λ (n : ℕ). put_at (Some n) part true (xs ++ x ∷ []) ≡ xs ++ given_record x part true ∷ []) is
    (rw (get-push_new xs x) (set-last xs x (given_record x part true)))

-- what is known when it was taken
record IsTaken (k : ℕ) (pieces : List (List ℕ)) (m : Message) (old new : ClientEnd) : Type 0 where
  idle : IsIdle (k + 1) new.client
  spelled : SpellsMsg m (old.client.held ++ bytes_taken (map TakesDown pieces))
  held : new.client.held ≡ []
  records : new.records ≡ put_at (Some k) m.content true old.records

taken_by : (k : ℕ) (pieces : List (List ℕ)) (reply : ReadyReply) (m : Message) (old new : ClientEnd) → Awaits k old.client
    → ClientRun 1 old (map TakesDown pieces ++ Collects reply m ∷ []) new → IsTaken k pieces m old new
taken_by k pieces reply m old new a run = by (parted 1 (map TakesDown pieces) (Collects reply m ∷ []) old new run)
  where
    by : ((mid : ClientEnd) × ClientRun 1 old (map TakesDown pieces) mid × ClientRun 1 mid (Collects reply m ∷ []) new) → IsTaken k pieces m old new
    by (mid, takes, (last, (ready, spells, last_is), new_is)) =
        let r = replied k reply pieces old mid a takes ready in
        let client : new.client ≡ released mid.client = ap (λ (x : ClientEnd). x.client) (new_is ∙ last_is) in
        let records : new.records ≡ put_at (Some reply.call) m.content reply.last mid.records = ap (λ (x : ClientEnd). x.records) (new_is ∙ last_is) in
        record {
          idle = subst (IsIdle (k + 1)) (sym client) (released_idle k mid.client r.has_reply);
          spelled = subst (SpellsMsg m) r.held spells;
          held = ap (λ (x : ClientSeen). x.held) client ∙ released-held k mid.client r.has_reply;
          records = records
              ∙ ap (λ (x : ReadyReply). put_at (Some x.call) m.content x.last mid.records) r.reply_is
              ∙ ap (λ (x : List Record). put_at (Some k) m.content true x) r.records;
        }

-- no byte is sent while a reply is taken
none_sent : (pieces : List (List ℕ)) (reply : ReadyReply) (m : Message) → bytes_sent (map TakesDown pieces ++ Collects reply m ∷ []) ≡ []
none_sent [] reply m = refl
none_sent (p ∷ pieces) reply m = none_sent pieces reply m

-- ---- the whole call

-- what is known of one more call that is complete
pub record IsRound {L : Type 0} (sent received : L → Option (List ℕ)) (k : ℕ) (call : CallNo) (old new : EndSeen L) : Type 0 where
  pub number : call.number ≡ k
  pub id : call.id ≡ pos (k + 1)
  pub complete : AreComplete (k + 1) new
  pub sends : Appends (sent old.link) (sent new.link) (request_bytes k)
  pub reply : GetsReply k (received old.link) (received new.link) (arrived old) (arrived new)

pub round : {L : Type 0} (sent received : L → Option (List ℕ)) (k : ℕ) (payload : Payload) (call : CallNo) (gone : List ℕ) (pieces : List (List ℕ)) (reply : ReadyReply) (m : Message) (x : Record) (old mid new : EndSeen L)
    → k < 2 ^ 8 → AreComplete k old → content_of payload ≡ body_alone (call_body k)
    → EndRuns sent received old (Calls Plain payload call ∷ SendsUp gone ∷ []) mid → mid.own.client.requests.output ≡ []
    → EndRuns sent received mid (map TakesDown pieces ++ Collects reply m ∷ []) new
    → slice_get new.own.records call.number ≡ Some x → x.parts ≡ body_alone (call_body k) ∷ []
    → IsRound sent received k call old new
round sent received k payload call gone pieces reply m x old mid new small complete content ask all took at parts =
    let body : Content = body_alone (call_body k) in
    let a = asked k payload call gone old.own mid.own small complete.idle (subst (λ (c : ℕ). ClientRun c old.own (Calls Plain payload call ∷ SendsUp gone ∷ []) mid.own) complete.connection ask.run) all in
    let mid_is : mid.connection ≡ 1 = ask.connection ∙ complete.connection in
    let t = taken_by k pieces reply m mid.own new.own a.awaits (subst (λ (c : ℕ). ClientRun c mid.own (map TakesDown pieces ++ Collects reply m ∷ []) new.own) mid_is took.run) in
    let asked_record : Record = new_record 1 (asked_as Plain body) in
    let records : new.own.records ≡ done_calls k ++ given_record asked_record m.content true ∷ [] =
    t.records
    ∙ ap (λ (xs : List Record). put_at (Some k) m.content true xs) (a.records ∙ ap (λ (xs : List Record). xs ++ new_record 1 (asked_as Plain (content_of payload)) ∷ []) complete.records)
    ∙ ap (λ (c : Content). put_at (Some k) m.content true (done_calls k ++ new_record 1 (asked_as Plain c) ∷ [])) content
    ∙ given_last (done_calls k) k asked_record m.content (so_many k) in
    let there : slice_get new.own.records k ≡ Some (given_record asked_record m.content true) =
    ap (λ (xs : List Record). slice_get xs k) records
    ∙ ap (λ (n : ℕ). slice_get (done_calls k ++ given_record asked_record m.content true ∷ []) n) (sym (so_many k))
    ∙ get-push_new (done_calls k) (given_record asked_record m.content true) in
    let same : given_record asked_record m.content true ≡ x =
    same_Some (given_record asked_record m.content true) x (sym there ∙ ap (slice_get new.own.records) (sym a.number) ∙ at) in
    let one : m.content ∷ [] ≡ body ∷ [] = ap (λ (z : Record). z.parts) same ∙ parts in
    let is : m.content ≡ body = cc in
    let came : mid.own.client.held ++ (mid.inlet ++ took.came) ≡ (mid.own.client.held ++ bytes_taken (map TakesDown pieces)) ++ new.inlet =
    ap (λ (z : List ℕ). mid.own.client.held ++ z)
    (took.taken ∙ ap (λ (z : List ℕ). z ++ new.inlet) (taken_on (map TakesDown pieces) (Collects reply m ∷ []) ∙ append-nil (bytes_taken (map TakesDown pieces))))
    ∙ sym (append_assoc mid.own.client.held (bytes_taken (map TakesDown pieces)) new.inlet) in
    let first : old.own.client.held ++ (old.inlet ++ ask.came) ≡ mid.own.client.held ++ mid.inlet =
    ap (λ (z : List ℕ). old.own.client.held ++ z) ask.taken ∙ ap (λ (z : List ℕ). z ++ mid.inlet) (sym a.held) in
    record {
      number = a.number;
      id = a.id;
      complete = record {
        connection = took.connection ∙ mid_is;
        idle = t.idle;
        records = rw add-one (records ∙ ap (λ (c : Content). done_calls k ++ given_record asked_record c true ∷ []) is);
      };
      sends = subst (Appends (sent old.link) (sent new.link))
          (append-nil (gone ++ []) ∙ append-nil gone ∙ a.gone_is ∙ ap (λ (c : Content). canonical (request (pos (k + 1)) Plain c)) content)
          (Appends-trans (sent old.link) (sent mid.link) (sent new.link) (gone ++ []) [] ask.sends
          (subst (Appends (sent mid.link) (sent new.link)) (none_sent pieces reply m) took.sends));
      reply = (
        ask.came ++ took.came,
        mid.own.client.held ++ bytes_taken (map TakesDown pieces),
        Appends-trans (received old.link) (received mid.link) (received new.link) ask.came took.came ask.receives took.receives,
        (m, t.spelled, is),
        append_assoc old.own.client.held old.inlet (ask.came ++ took.came)
            ∙ ap (λ (z : List ℕ). old.own.client.held ++ z) (sym (append_assoc old.inlet ask.came took.came))
            ∙ sym (append_assoc old.own.client.held (old.inlet ++ ask.came) took.came)
            ∙ ap (λ (z : List ℕ). z ++ took.came) first
            ∙ append_assoc mid.own.client.held mid.inlet took.came
            ∙ came
            ∙ ap (λ (z : List ℕ). (mid.own.client.held ++ bytes_taken (map TakesDown pieces)) ++ (z ++ new.inlet)) (sym t.held),
      );
    }

-- ---- the part of a call

-- two trees that the same bytes spell are one
one_body : (t u : Tree) (bytes : List ℕ) → Spells t bytes → Spells u bytes → t ≡ u
one_body t u bytes s s' = (same_front bytes t u bytes bytes [] [] s s' (sym (append-nil bytes)) (sym (append-nil bytes))).0

abbrev content : Tree → List Sequence → Content
content t qs = record { body = t; sequences = qs }

one_alone : (t u : Tree) (qs : List Sequence) → t ≡ u → qs ≡ [] → content t qs ≡ body_alone u
one_alone t u qs a b = rw (a, b) refl

not_alone : (c : Content) (t : Tree) (q : Sequence) (qs : List Sequence) → c.sequences ≡ q ∷ qs → c ≡ body_alone t → ⊥
not_alone c t q qs some e =
    let none : c.sequences ≡ [] = ap (λ (x : Content). x.sequences) e in
    absurd cc

-- content with the bytes of this body is the body alone where the walk over its sequences gives none
pub alone_if_none : (c : Content) (t : Tree) (bytes : List ℕ) (s after : SequencesIter) (next : Option (Bor (List ℕ) × Documents)) (none : Bool) → Spells c.body bytes
    → Spells t bytes → SequencesLeft s c.sequences → SequenceStepsTo s next after → is_some next ≡ not none → IsTrue none ↔ (c ≡ body_alone t)
alone_if_none c t bytes s after None true spelled own left steps is = (λ e. one_alone c.body t c.sequences (one_body c.body t bytes spelled own) (steps c.sequences left).0, λ e. refl)
alone_if_none c t bytes s after None false spelled own left steps is = absurd cc
alone_if_none c t bytes s after (Some x) true spelled own left steps is = absurd cc
alone_if_none c t bytes s after (Some x) false spelled own left steps is =
    let g : GivesSequence c.sequences (x.0.now) x.1 after = steps c.sequences left in
    (λ e. absurd cc, λ e. absurd (not_alone c t g.sequence g.others g.is_first e))

-- a list of one item
pub only_item : {A : Type 0} (xs : List A) (x : A) → 1 ≤ length xs → length xs < 2 → x ≡ get_or xs 0 x → xs ≡ x ∷ []
only_item [] x some few is = absurd (omega (arith, some))
only_item (y ∷ []) x some few is = ap (λ z. z ∷ []) (sym is)
only_item (y ∷ z ∷ zs) x some few is = absurd (omega (arith, few))
