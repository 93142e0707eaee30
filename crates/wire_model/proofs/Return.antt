-- The client takes a piece: nothing changes, or the first reply on the way down arrives.
use Rattle.std.proofs.Common.{◌≡◌, ℕ, ℤ, pos, ◌<◌, ◌^◌, Bool, true, false, List, [], ◌∷◌, ◌++◌, refl, sym, ◌∙◌, ap, append_assoc, Option, Some, None, Result, Ok, Err, inr}
use Rattle.std.specs.Prelude.{slice_get, if◌then◌else◌, not, ◌&&◌, ◌||◌}
use Rattle.std.specs.List.{flat_map}
use Rattle.std.specs.Map.{set_value}
use Rattle.std.specs.Ordering.{int_eq}
use Rattle.std.proofs.lemmas.List.{append_cancel_left}
use Rattle.std.proofs.lemmas.Option.{same_Some}
use Rattle.wire_msg.specs.{Content, IsBad, IsOpen, Message, SpellsMsg, canonical}
use Rattle.wire_msg.specs.declared.fault.MsgFault.{MsgFault}
use Rattle.wire_peer.specs.{ClientSeen, Table, after_message, after_reply, allowed, allows_more, are_left, bearer, chain, holding, id_after_one, owner, released, without, written}
use Rattle.wire_peer.specs.CallTables.{of_bearer, owner_by}
use Rattle.wire_peer.specs.Chains.{reply}
use Rattle.wire_peer.specs.ClientSteps.{after_release, received}
use Rattle.wire_peer.specs.declared.call_table.Outstanding.{Outstanding}
use Rattle.wire_peer.specs.declared.client_state.ClientCause.{ClientCause}
use Rattle.wire_peer.specs.declared.client_state.ClientCause.TheVariants.{MoreNotAllowed, StreamBroken}
use Rattle.wire_model.specs.Conns.{Conn}
use Rattle.wire_model.specs.Machines.{Call, CallIs, OnWay, Waiting, Answered, Pending, Done, Machine, with_part, with_call}
use Rattle.wire_model.specs.Moves.{with_server_output}
use Rattle.wire_model.proofs.Bearers.{Idle, stream-idle, stream-one, idle-without, without-noted, bearer-noted, bearer-noted_other, bearer-without_other, eq_int, ids_apart}
use Rattle.wire_model.proofs.Chains.{AllFit}
use Rattle.wire_model.proofs.Exacts.{Exact, exact_set, exact_out}
use Rattle.wire_model.proofs.Kept.{kept_set, wait_kept, up_kept, each_has, due_there}
use Rattle.wire_model.proofs.Lists.{Has, Each, get-set_same, get-set_other}
use Rattle.wire_model.proofs.Ranks.{ours, rank-set, rank_apart}
use Rattle.wire_model.proofs.Routes.{Bears, Tag, Due, Route, TagIs, DueIs, DownFits, Fits, IsMade, Streams, IdleBut, IdsFit, OnWayAt, WaitingAt, DueAt, tag_calls, to_of, due_calls, spelled, as_outstanding, made_alike}
use Rattle.wire_model.proofs.Wires.{bad_begins, bad_some, open_nil, spells_first, spells_some}

-- ---- the client

-- the client that holds these bytes, with this table
abbrev pub client_with : ClientSeen → List ℕ → Table → ClientSeen
client_with k held os = record k { requests = record (k.requests) { outstanding = os }; held = held; reply = None }

-- the client in whose bytes a reply to the tag's call is ready
abbrev pub ready : ClientSeen → List ℕ → Tag → Option ℤ → ℕ → Bool → ClientSeen
ready k held tag last next more = record k {
  requests = record (k.requests) { outstanding = after_reply k.requests.outstanding (tag.id, as_outstanding tag last) (pos next) more };
  held = held;
  reply = Some (record { call = tag.number; last = not more });
}

abbrev pub conn_down : Conn → ClientSeen → List ℕ → Conn
conn_down k client output = record k { client = client; server = with_server_output k.server output }

-- a release without a reply changes nothing
pub released_none : (k : ClientSeen) → k.reply ≡ None → released k ≡ k
released_none k e = ap (λ r. after_release r k) e

-- whose reply it is
abbrev pub of_tag : Tag → Option ℤ → Result (ℤ × Outstanding) ClientCause
of_tag tag last = Ok (tag.id, as_outstanding tag last)

-- ---- what is due

-- due replies whose first answer is this one
abbrev pub due_of : Tag → Option ℤ → ℕ → Content → List Content → ℕ → Due
due_of tag last next a bs entry = record { tag = tag; last = last; next = next; left = a ∷ bs; entry = entry }

-- what is due begins with this reply
pub record Begins (due : List Due) (msg : Message) (rest : List ℕ) : Type 0 where
  pub tag : Tag
  pub last : Option ℤ
  pub next : ℕ
  pub a : Content
  pub bs : List Content
  pub entry : ℕ
  pub ds : List Due
  pub is : due ≡ due_of tag last next a bs entry ∷ ds
  pub message : msg ≡ reply next (to_of last tag.id) (are_left bs) a
  pub left : rest ≡ written (chain (id_after_one next) (pos next) bs) ++ flat_map spelled ds

module _ {H : Type 0} (limit : ℕ) (short : limit < 2 ^ 31) (c : ℕ) (k : Conn) (m : Machine H) (r : Route) (f : Fits limit c k m r) (lives : m.client_lives c ≡ true) (raw : k.raw ≡ false) (p rest : List ℕ) (output : k.server.output ≡ p ++ rest) where
  abbrev os : Table
  os = k.client.requests.outstanding

  abbrev Down : List Due → Type 0
  Down due = DownFits limit c k.client.held k.server.output k.client.reply k.client.requests.outstanding k.calls m due

  made_with : (client : ClientSeen) → client.requests.limit ≡ k.client.requests.limit → client.requests.next_id ≡ k.client.requests.next_id → client.requests.next_number ≡ k.client.requests.next_number → IsMade limit c (conn_down k client rest)
  made_with client same id number = made_alike limit c k (conn_down k client rest) refl refl refl same id number refl f.made

  -- inside a message
  pub need_fits : IsOpen limit (k.client.held ++ p) → Fits limit c (conn_down k (holding k.client (k.client.held ++ p)) rest) m r
  need_fits o = record {
    made = made_with (holding k.client (k.client.held ++ p)) refl refl refl;
    raw_is = f.raw_is;
    client_is = f.client_is;
    server_is = f.server_is;
    wait = f.wait;
    up = f.up;
    down = λ l. let d = f.down l in record {
      bytes = append_assoc k.client.held p rest ∙ ap (λ b. k.client.held ++ b) (sym output) ∙ d.bytes;
      still_open = o;
      no_reply = d.no_reply;
      fit = d.fit;
      are = d.are;
      tags = d.tags;
      rising = d.rising;
      ids = d.ids;
      streams = d.streams;
    };
    onway_ids = f.onway_ids;
    waiting_ids = f.waiting_ids;
    up_uncut = f.up_uncut;
    down_uncut = f.down_uncut;
  }

  joined : (due : List Due) → Down due → (k.client.held ++ p) ++ rest ≡ flat_map spelled due
  joined due d = append_assoc k.client.held p rest ∙ ap (λ b. k.client.held ++ b) (sym output) ∙ d.bytes

  pub never_bad : (due : List Due) (fault : MsgFault) → Down due → IsBad limit (k.client.held ++ p) fault → ⊥
  never_bad [] fault d bad = bad_some limit (k.client.held ++ p) rest fault bad (joined [] d)
  never_bad (t ∷ ts) fault d bad = by t.left refl
    where
      by : (left : List Content) → t.left ≡ left → ⊥
      by [] e = let fair = d.tags.0.fair in rw e at fair
      by (a ∷ bs) e =
          let fits : AllFit limit (chain t.next (to_of t.last t.tag.id) (a ∷ bs)) = (let fit = d.fit.0 in rw e at fit) in
          let more : List ℕ = written (chain (id_after_one t.next) (pos t.next) bs) in
          bad_begins limit (reply t.next (to_of t.last t.tag.id) (are_left bs) a) (k.client.held ++ p) rest (more ++ flat_map spelled ts) fault short fits.0 bad
          (joined (t ∷ ts) d ∙ ap (λ l. written (chain t.next (to_of t.last t.tag.id) l) ++ flat_map spelled ts) e ∙ append_assoc (canonical (reply t.next (to_of t.last t.tag.id) (are_left bs) a)) more (flat_map spelled ts))

  pub first_due : (msg : Message) (due : List Due) → Down due → SpellsMsg msg (k.client.held ++ p) → Begins due msg rest
  first_due msg [] d s = absurd (spells_some msg (k.client.held ++ p) rest s (joined [] d))
  first_due msg (t ∷ ts) d s = by t.left refl
    where
      by : (left : List Content) → t.left ≡ left → Begins (t ∷ ts) msg rest
      by [] e = absurd (let fair = d.tags.0.fair in rw e at fair)
      by (a ∷ bs) e =
          let first : Message = reply t.next (to_of t.last t.tag.id) (are_left bs) a in
          let more : List ℕ = written (chain (id_after_one t.next) (pos t.next) bs) in
          let fits : AllFit limit (chain t.next (to_of t.last t.tag.id) (a ∷ bs)) = (let fit = d.fit.0 in rw e at fit) in
          let all : (k.client.held ++ p) ++ rest ≡ canonical first ++ (more ++ flat_map spelled ts) =
          joined (t ∷ ts) d ∙ ap (λ l. written (chain t.next (to_of t.last t.tag.id) l) ++ flat_map spelled ts) e ∙ append_assoc (canonical first) more (flat_map spelled ts) in
          let same = spells_first limit msg first (k.client.held ++ p) rest (more ++ flat_map spelled ts) short fits.0 s all in
          record {
            tag = t.tag;
            last = t.last;
            next = t.next;
            a = a;
            bs = bs;
            entry = t.entry;
            ds = ts;
            is = (λ i. record { tag = t.tag; last = t.last; next = t.next; left = e i; entry = t.entry } ∷ ts);
            message = same.0;
            left = append_cancel_left (canonical first) rest (more ++ flat_map spelled ts) (ap (λ b. b ++ rest) (sym same.1) ∙ all);
          }

  -- the client knows whose reply it is
  pub owner_is : (tag : Tag) (last : Option ℤ) (next : ℕ) (a : Content) (bs : List Content) (entry : ℕ) (ds : List Due) → Down (due_of tag last next a bs entry ∷ ds)
      → owner k.client.requests.outstanding (to_of last tag.id) ≡ of_tag tag last
  owner_is tag None next a bs entry ds d =
      ap (λ s. owner_by s os tag.id) (stream-idle os d.streams.0) ∙ ap (λ b. of_bearer b tag.id) d.ids.0.bearer_is
  owner_is tag (Some n) next a bs entry ds d =
      ap (λ s. owner_by s os n) (stream-one tag.id n os (as_outstanding tag (Some n)) d.ids.0.bearer_is refl d.streams.0)
      ∙ elim (int_eq tag.id n) as (λ b. (if b || int_eq n n then of_tag tag (Some n) else Err StreamBroken) ≡ of_tag tag (Some n)) [
        | true ↦ refl
        | false ↦ ap (λ b. if b then of_tag tag (Some n) else Err StreamBroken) (eq_int n n refl)
      ]

  -- more replies come only to a call that allows them
  allowed_is : (tag : Tag) (last : Option ℤ) (more : Bool) → (more ≡ true → tag.asked.exhaust_allowed ≡ true) → allows_more tag.kind ≡ tag.asked.exhaust_allowed → allowed more (of_tag tag last) ≡ of_tag tag last
  allowed_is tag last true fair same = ap (λ b. if true && not b then Err MoreNotAllowed else of_tag tag last) (same ∙ fair refl)
  allowed_is tag last false fair same = refl

  -- the reply is ready
  pub ready_is : (msg : Message) (tag : Tag) (last : Option ℤ) (next : ℕ) (a : Content) (bs : List Content) (entry : ℕ) (ds : List Due) → msg ≡ reply next (to_of last tag.id) (are_left bs) a → Down (due_of tag last next a bs entry ∷ ds)
      → after_message (holding k.client (k.client.held ++ p)) msg ≡ ready k.client (k.client.held ++ p) tag last next (are_left bs)
  ready_is msg tag last next a bs entry ds is d =
      ap (after_message (holding k.client (k.client.held ++ p))) is
      ∙ ap (λ o. received (holding k.client (k.client.held ++ p)) (reply next (to_of last tag.id) (are_left bs) a) (allowed (are_left bs) o)) (owner_is tag last next a bs entry ds d)
      ∙ ap (received (holding k.client (k.client.held ++ p)) (reply next (to_of last tag.id) (are_left bs) a)) (allowed_is tag last (are_left bs) d.tags.0.fair d.ids.0.exhaust_allowed)

  module _ (all_ours : (i : ℕ) (x : Call) → CallIs m.calls i x → x.connection ≡ c → ours x ≡ true) (tag : Tag) (last : Option ℤ) (next : ℕ) (a : Content) (entry : ℕ) (ds : List Due) (x : Call) (at : CallIs m.calls tag.call x) (is : DueAt c x) where
    head_ours : ours x ≡ true
    head_ours = all_ours tag.call x at is.0

    -- another call's request has another id
    other_id : (t : Tag) (l : Option ℤ) → TagIs m.calls tag → TagIs m.calls t → ((y : Call) → CallIs m.calls t.call y → y.connection ≡ c) → (t.call ≡ tag.call → ⊥)
        → Bears os k.calls tag last → Bears os k.calls t l → t.id ≡ tag.id → ⊥
    other_id t l head is' here n eh et = ids_apart os tag.id t.id (as_outstanding tag last) (as_outstanding t l) eh.bearer_is et.bearer_is
        (λ e. n (rank_apart m.calls t.call tag.call is'.x x is'.at at (all_ours t.call is'.x is'.at (here is'.x is'.at)) head_ours
        (is'.index ∙ same_Some t.index tag.index (sym et.at ∙ ap (slice_get k.calls) e ∙ eh.at) ∙ sym head.index)))

    due_kept : (y : Call) → ours y ≡ ours x → (Has tag.call (due_calls ds) → ⊥) → Each (DueIs m) ds → Each (DueIs (with_call m tag.call y)) ds
    due_kept y same apart e = each_has (DueIs m) (DueIs (with_call m tag.call y)) (λ b. b.tag.call) ds
        (λ b has is'. due_there m (with_call m tag.call y) b is' (get-set_other m.calls tag.call b.tag.call y (λ s. apart (rw (← s) has)) ∙ is'.tag.at) (rank-set m.calls tag.call x y at same b.tag.call) is'.in_log) e

    connection_in : (Q : Call → Type 0) (is' : List ℕ) → ((y : Call) → Q y → y.connection ≡ c) → Exact Q m.calls is' → (i : ℕ) → Has i is' → (y : Call) → CallIs m.calls i y → y.connection ≡ c
    connection_in Q is' here e i h y g = let q = e.each i h in here y (rw (same_Some y q.0 (sym g ∙ q.1)) q.2)

    -- a request has the same call in the other table
    bears_in : (os' : Table) (t : Tag) (l : Option ℤ) → bearer t.id os' ≡ bearer t.id os → Bears os k.calls t l → Bears os' k.calls t l
    bears_in os' t l same b = record { bearer_is = same ∙ b.bearer_is; at = b.at; exhaust_allowed = b.exhaust_allowed }

    -- others keep their ids, whether the call has had a part or is complete
    others_due : (os' : Table) → ((i : ℤ) → (i ≡ tag.id → ⊥) → bearer i os' ≡ bearer i os) → (bs : List Content) → Down (due_of tag last next a bs entry ∷ ds)
        → Each (λ d. Bears os' k.calls d.tag d.last) ds
    others_due os' other bs d = each_has (λ b. DueIs m b × Bears os k.calls b.tag b.last) (λ b. Bears os' k.calls b.tag b.last) (λ b. b.tag.call) ds
        (λ b has both. bears_in os' b.tag b.last (other b.tag.id (other_id b.tag b.last d.tags.0.tag both.0.tag (connection_in (DueAt c) (due_calls (due_of tag last next a bs entry ∷ ds)) (λ y q. q.0) d.are b.tag.call (inr has)) (λ s. d.are.apart.0 (rw (← s) has)) d.ids.0 both.1)) both.1)
        (both ds d.tags.1 d.ids.1)
      where
        both : (xs : List Due) → Each (DueIs m) xs → Each (λ b. Bears os k.calls b.tag b.last) xs → Each (λ b. DueIs m b × Bears os k.calls b.tag b.last) xs
        both [] p q = tt
        both (b ∷ xs) p q = ((p.0, q.0), both xs p.1 q.1)

    others_tags : (Q : Call → Type 0) (ts : List Tag) (os' : Table) → ((y : Call) → Q y → y.connection ≡ c) → (Q x → ⊥) → ((i : ℤ) → (i ≡ tag.id → ⊥) → bearer i os' ≡ bearer i os) → TagIs m.calls tag → Bears os k.calls tag last
        → Exact Q m.calls (tag_calls ts) → Each (TagIs m.calls) ts → IdsFit os k.calls ts → IdsFit os' k.calls ts
    others_tags Q ts os' here n other head eh are tags ids = each_has (λ t. TagIs m.calls t × (t.asked.more_to_come ≡ false → Bears os k.calls t None)) (λ t. t.asked.more_to_come ≡ false → Bears os' k.calls t None) (λ t. t.call) ts
        (λ t has both loud. bears_in os' t None (other t.id (other_id t None head both.0 (connection_in Q (tag_calls ts) here are t.call has)
        (λ s. let q = are.each t.call has in n (let same : q.0 ≡ x = same_Some q.0 x (sym q.1 ∙ ap (slice_get m.calls) s ∙ at) in rw same at q.2)) eh (both.1 loud))) (both.1 loud))
        (both ts tags ids)
      where
        both : (xs : List Tag) → Each (TagIs m.calls) xs → IdsFit os k.calls xs → Each (λ t. TagIs m.calls t × (t.asked.more_to_come ≡ false → Bears os k.calls t None)) xs
        both [] p q = tt
        both (b ∷ xs) p q = ((p.0, q.0), both xs p.1 q.1)

    idle_rest : (l : Option ℤ) → IdleBut l tag.id os → Idle (without tag.id os)
    idle_rest None i = idle-without tag.id os i
    idle_rest (Some n) i = i

    not_onway : OnWayAt c x → ⊥
    not_onway q = let e : OnWay ≡ Answered is.2.0 = sym q.1 ∙ is.2.1 in cc

    not_waiting : WaitingAt c x → ⊥
    not_waiting q = let e : Waiting ≡ Answered is.2.0 = sym q.1 ∙ is.2.1 in cc

    -- the whole connection, once its own way down is right
    rest_fits : (os' : Table) (due : List Due) (y : Call) → y.connection ≡ x.connection → y.asked ≡ x.asked → y.place ≡ x.place → ours y ≡ ours x → ((i : ℤ) → (i ≡ tag.id → ⊥) → bearer i os' ≡ bearer i os)
        → TagIs m.calls tag → Bears os k.calls tag last
        → DownFits limit c [] rest None os' k.calls (with_call m tag.call y) due
        → Fits limit c (conn_down k (client_with k.client [] os') rest) (with_call m tag.call y) (record { onway = r.onway; waiting = r.waiting; due = due })
    rest_fits os' due y here asked place same other head eh down = record {
      made = made_with (client_with k.client [] os') refl refl refl;
      raw_is = f.raw_is;
      client_is = f.client_is;
      server_is = f.server_is;
      wait = λ l. let w = f.wait l in wait_kept c k.server.waiting m (with_call m tag.call y) r.waiting
          (exact_set (WaitingAt c) m.calls (tag_calls r.waiting) tag.call x y at (λ q. (here ∙ q.0, place ∙ q.1)) (λ q. (sym here ∙ q.0, sym place ∙ q.1)) w.are)
          (kept_set m.calls tag.call x y at asked same) w;
      up = λ l _. let u = f.up l raw in up_kept limit c k.server.held k.client.requests.output m (with_call m tag.call y) r.onway
          (exact_set (OnWayAt c) m.calls (tag_calls r.onway) tag.call x y at (λ q. (here ∙ q.0, place ∙ q.1)) (λ q. (sym here ∙ q.0, sym place ∙ q.1)) u.are)
          (kept_set m.calls tag.call x y at asked same) u;
      down = λ l. down;
      onway_ids = λ u v. let w = f.up v raw in others_tags (OnWayAt c) r.onway os' (λ z q. q.0) not_onway other head eh w.are w.tags (f.onway_ids u v);
      waiting_ids = λ u v. let w = f.wait v in others_tags (WaitingAt c) r.waiting os' (λ z q. q.0) not_waiting other head eh w.are w.tags (f.waiting_ids u v);
      up_uncut = f.up_uncut;
      down_uncut = f.down_uncut;
    }

    -- the call has had this part, and more will come
    abbrev begun : Table
    begun = set_value (int_eq tag.id) os (as_outstanding tag (Some (pos next)))

    -- one more part, and more to come
    pub part_fits : (b : Content) (bs : List Content) → Down (due_of tag last next a (b ∷ bs) entry ∷ ds) → rest ≡ written (chain (id_after_one next) (pos next) (b ∷ bs)) ++ flat_map spelled ds
        → Fits limit c (conn_down k (client_with k.client [] begun) rest) (with_call m tag.call (with_part x a true)) (record { onway = r.onway; waiting = r.waiting; due = due_of tag (Some (pos next)) (id_after_one next) b bs entry ∷ ds })
    part_fits b bs old is_rest = rest_fits begun (due_of tag (Some (pos next)) (id_after_one next) b bs entry ∷ ds) (with_part x a true) refl refl refl refl (λ i n. bearer-noted_other tag.id i (as_outstanding tag (Some (pos next))) os n) old.tags.0.tag old.ids.0 (record {
      bytes = is_rest;
      still_open = open_nil limit;
      no_reply = refl;
      fit = (old.fit.0.1, old.fit.1);
      are = exact_set (DueAt c) m.calls (due_calls (due_of tag last next a (b ∷ bs) entry ∷ ds)) tag.call x (with_part x a true) at (λ q. q) (λ q. q) old.are;
      tags = (head, due_kept (with_part x a true) refl old.are.apart.0 old.tags.1);
      rising = old.rising;
      ids = (
        record { bearer_is = bearer-noted tag.id (as_outstanding tag (Some (pos next))) os (as_outstanding tag last) old.ids.0.bearer_is; at = old.ids.0.at; exhaust_allowed = old.ids.0.exhaust_allowed },
        others_due begun (λ i n. bearer-noted_other tag.id i (as_outstanding tag (Some (pos next))) os n) (b ∷ bs) old,
      );
      streams = (rw (without-noted tag.id (as_outstanding tag (Some (pos next))) os) (idle_rest last old.streams.0), old.streams.1);
    })
      where
        head : DueIs (with_call m tag.call (with_part x a true)) (due_of tag (Some (pos next)) (id_after_one next) b bs entry)
        head =
            let t = old.tags.0 in
            let same : t.tag.x ≡ x = same_Some t.tag.x x (sym t.tag.at ∙ at) in
            record {
              tag = record { x = with_part x a true; at = get-set_same m.calls tag.call x (with_part x a true) at; asked = ap (λ (z : Call). z.asked) (sym same) ∙ t.tag.asked; index = rank-set m.calls tag.call x (with_part x a true) at refl tag.call ∙ t.tag.index };
              place = ap (λ (z : Call). z.place) (sym same) ∙ t.place;
              entry = t.entry;
              in_log = t.in_log;
              answers = t.answers ∙ ap (λ (z : Call). Some (z.parts ++ a ∷ b ∷ bs)) same ∙ ap (λ z. Some z) (sym (append_assoc x.parts (a ∷ []) (b ∷ bs)));
              fair = λ _. t.fair refl;
            }

    idle_all : (os' : Table) (xs : List Due) → Idle os' → Each (λ d. d.last ≡ None) xs → Streams os' xs
    idle_all os' [] i n = i
    idle_all os' (d ∷ xs) i n = (rw n.0 i, n.1)

    -- the last part
    pub whole_fits : Down (due_of tag last next a [] entry ∷ ds) → rest ≡ flat_map spelled ds
        → Fits limit c (conn_down k (client_with k.client [] (without tag.id os)) rest) (with_call m tag.call (with_part x a false)) (record { onway = r.onway; waiting = r.waiting; due = ds })
    whole_fits old is_rest = rest_fits (without tag.id os) ds (with_part x a false) refl refl refl (sym head_ours) (λ i n. bearer-without_other tag.id i os n) old.tags.0.tag old.ids.0 (record {
      bytes = is_rest;
      still_open = open_nil limit;
      no_reply = refl;
      fit = old.fit.1;
      are = exact_out (DueAt c) m.calls (due_calls (due_of tag last next a [] entry ∷ ds)) tag.call 0 x (with_part x a false) at (λ q. let e : Done ≡ Pending = q.1 in cc) refl old.are;
      tags = due_kept (with_part x a false) (sym head_ours) old.are.apart.0 old.tags.1;
      rising = old.rising.1;
      ids = others_due (without tag.id os) (λ i n. bearer-without_other tag.id i os n) [] old;
      streams = idle_all (without tag.id os) ds (idle_rest last old.streams.0) old.streams.1;
    })
