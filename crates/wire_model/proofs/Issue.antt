-- A call is accepted: one more request on the way up.
use Rattle.std.proofs.Common.{◌≡◌, ℕ, ℤ, ◌+◌, ◌-◌, ◌^◌, Bool, true, false, List, [], ◌∷◌, ◌++◌, length, length-append, refl, sym, ◌∙◌, ap, subst, arith, Option, Some, None}
use Rattle.std.specs.Prelude.{if◌then◌else◌, ◌==◌}
use Rattle.std.specs.List.{flat_map}
use Rattle.std.proofs.lemmas.Option.{same_Some, slice_get_within}
use Rattle.wire_msg.specs.{Content, IsContent, Message, canonical}
use Rattle.wire_peer.specs.{Asked, IsCalled, Table, awaiting, awaits_reply, bearer, called, number_after, request}
use Rattle.wire_peer.specs.declared.call_table.Outstanding.{Outstanding}
use Rattle.wire_peer.specs.declared.calls.CallKind.{CallKind}
use Rattle.wire_peer.specs.declared.calls.CallKind.TheVariants.{Plain, Exhaust, Unacknowledged}
use Rattle.wire_peer.specs.declared.calls.CallNo.{CallNo}
use Rattle.wire_model.specs.Conns.{Conn}
use Rattle.wire_model.specs.Machines.{OnWay, Waiting, Answered, Machine, asked_as, new_call, with_new}
use Rattle.wire_model.specs.Shown.{shown_calls}
use Rattle.wire_model.proofs.Lists.{Each, Each-push, Each-weaker, map-push, get-push_old, get-push_new}
use Rattle.wire_model.proofs.Wires.{Fit}
use Rattle.wire_model.proofs.Chains.{request_fits, request_id_behind, request_id_free}
use Rattle.wire_model.proofs.Exacts.{exact_push, exact_push_other}
use Rattle.wire_model.proofs.Ranks.{rank-push, rank-end}
use Rattle.wire_model.proofs.Bearers.{bearer-push, bearer-last, idle-push, idle-without_push, no_bearer}
use Rattle.wire_model.proofs.Routes.{Tag, Due, Route, TagIs, DueIs, UpFits, DownFits, Fits, Bears, IdsFit, Streams, IdleBut, OnWayAt, WaitingAt, DueAt, tag_calls, tag_message, request_message, due_calls, sent, as_outstanding}
use Rattle.wire_model.proofs.Kept.{tags_kept, kept_push, wait_kept, due_there, Rising-push, one_more}

-- the request of a call is the message of its tag
pub request_is : (id : ℤ) (kind : CallKind) (c : Content) → request id kind c ≡ request_message id (asked_as kind c)
request_is id Plain c = refl
request_is id Exhaust c = refl
request_is id Unacknowledged c = refl

number_next : (n next count : ℕ) → n ≡ count → number_after n ≡ Some next → next ≡ count + 1
number_next n next count same e = by (n == 2 ^ 64 - 1) e
  where
    by : (b : Bool) → (if b then None else Some (n + 1)) ≡ Some next → next ≡ count + 1
    by true e = absurd (let no : None ≡ Some next = e in cc)
    by false e = sym (same_Some (n + 1) next e) ∙ ap (λ i. i + 1) same

kept_id : (os : Table) (o : ℤ × Outstanding) (awaits : Bool) (id : ℤ) (a : Outstanding) → bearer id os ≡ Some a → bearer id (if awaits then os ++ o ∷ [] else os) ≡ Some a
kept_id os o true id a e = bearer-push os o a id e
kept_id os o false id a e = e

new_id : (os : Table) (id : ℤ) (o : Outstanding) (awaits : Bool) → bearer id os ≡ None → (if awaits then false else true) ≡ false → bearer id (if awaits then os ++ (id, o) ∷ [] else os) ≡ Some o
new_id os id o true e s = bearer-last os id o e
new_id os id o false e s = cc

-- a call keeps its id, and its record stays where it was
kept_bears : (os : Table) (o : ℤ × Outstanding) (awaits : Bool) (indexes : List ℕ) (index : ℕ) (t : Tag) (last : Option ℤ) → Bears os indexes t last → Bears (if awaits then os ++ o ∷ [] else os) (indexes ++ index ∷ []) t last
kept_bears os o awaits indexes index t last b = record {
  bearer_is = kept_id os o awaits t.id (as_outstanding t last) b.bearer_is;
  at = get-push_old indexes t.number t.index index b.at;
  exhaust_allowed = b.exhaust_allowed;
}

idle_more : (l : Option ℤ) (id : ℤ) (os : Table) (o : ℤ × Outstanding) (a : Outstanding) → bearer id os ≡ Some a → o.1.last ≡ None → IdleBut l id os → IdleBut l id (os ++ o ∷ [])
idle_more None id os o a e n idle = idle-push os o idle n
idle_more (Some last) id os o a e n idle = idle-without_push id os o a e idle n

streams_push : (os : Table) (o : ℤ × Outstanding) (indexes : List ℕ) (due : List Due) → o.1.last ≡ None → Each (λ d. Bears os indexes d.tag d.last) due → Streams os due → Streams (os ++ o ∷ []) due
streams_push os o indexes [] n ids s = idle-push os o s n
streams_push os o indexes (d ∷ ds) n ids s = (idle_more d.last d.tag.id os o (as_outstanding d.tag d.last) ids.0.bearer_is n s.0, s.1)

streams_more : (os : Table) (o : ℤ × Outstanding) (awaits : Bool) (indexes : List ℕ) (due : List Due) → o.1.last ≡ None → Each (λ d. Bears os indexes d.tag d.last) due → Streams os due → Streams (if awaits then os ++ o ∷ [] else os) due
streams_more os o true indexes due n ids s = streams_push os o indexes due n ids s
streams_more os o false indexes due n ids s = s

-- the route with one more request
abbrev pub tag_issued : {H : Type 0} → Machine H → CallKind → Content → CallNo → Tag
tag_issued m kind payload call = record { call = length m.calls; index = length (shown_calls m.calls); number = call.number; id = call.id; kind = kind; asked = asked_as kind payload }

abbrev pub route_issued : {H : Type 0} → Machine H → Route → CallKind → Content → CallNo → Route
route_issued m r kind payload call = record { onway = r.onway ++ tag_issued m kind payload call ∷ []; waiting = r.waiting; due = r.due }

-- the connection after the call
abbrev pub conn_issued : {H : Type 0} → Machine H → Conn → CallKind → Content → CallNo → Conn
conn_issued m k kind payload call = record k { client = called k.client kind payload call; calls = k.calls ++ length (shown_calls m.calls) ∷ [] }

module _ {H : Type 0} (limit c : ℕ) (k : Conn) (m : Machine H) (r : Route) (kind : CallKind) (payload : Content) (call : CallNo)
    (accepted : IsCalled k.client kind payload call) (content : ∥ IsContent payload ∥₁) (f : Fits limit c k m r) where
  abbrev a : Asked
  a = asked_as kind payload

  abbrev n : Machine H
  n = with_new m (new_call c (asked_as kind payload))

  abbrev t : Tag
  t = tag_issued m kind payload call

  abbrev os : Table
  os = k.client.requests.outstanding

  abbrev o : Outstanding
  o = as_outstanding (tag_issued m kind payload call) None

  abbrev os' : Table
  os' = awaiting k.client.requests.outstanding kind call

  abbrev indexes' : List ℕ
  indexes' = k.calls ++ length (shown_calls m.calls) ∷ []

  free : bearer call.id os ≡ None
  free = no_bearer call.id os accepted.1.next.id.free

  fit : Fit limit (tag_message t)
  fit = rw (← request_is call.id kind payload) (request_fits limit call.id kind payload (request_id_free k.client.requests.next_id _ call.id accepted.1.next.id f.made.request_id) (rw (← f.made.limit_down) accepted.1.within) content)

  is_count : call.number ≡ length k.calls
  is_count = f.made.numbered call.number accepted.1.next.number

  numbered : (next : ℕ) → number_after call.number ≡ Some next → next ≡ length indexes'
  numbered next e = let is = number_next call.number next (length k.calls) is_count e in omega (arith, is, length-append k.calls (length (shown_calls m.calls) ∷ []))

  issue_up : UpFits limit c k.server.held k.client.requests.output m r.onway → UpFits limit c k.server.held (k.client.requests.output ++ canonical (request call.id kind payload)) n (r.onway ++ t ∷ [])
  issue_up u = record {
    bytes = subst (λ (z : Message). k.server.held ++ (k.client.requests.output ++ canonical z) ≡ flat_map sent (r.onway ++ t ∷ [])) (sym (request_is call.id kind payload)) (one_more sent k.server.held k.client.requests.output r.onway t u.bytes);
    still_open = u.still_open;
    fit = Each-push (λ a. Fit limit (tag_message a)) r.onway t u.fit fit;
    are = rw (map-push (λ (a : Tag). a.call) r.onway t) (exact_push (OnWayAt c) m.calls (tag_calls r.onway) (new_call c a) (refl, refl) u.are);
    tags = Each-push (TagIs n.calls) r.onway t (tags_kept m.calls n.calls r.onway (kept_push m.calls (new_call c a)) u.tags)
        (record { x = new_call c a; at = get-push_new m.calls (new_call c a); asked = refl; index = rank-end m.calls (new_call c a) });
    rising = rw (map-push (λ (a : Tag). a.call) r.onway t) (Rising-push (tag_calls r.onway) (length m.calls) (λ j h. let p = u.are.each j h in slice_get_within m.calls j p.0 p.1) u.rising);
  }

  issue_down : DownFits limit c k.client.held k.server.output k.client.reply os k.calls m r.due → DownFits limit c k.client.held k.server.output k.client.reply os' indexes' n r.due
  issue_down d = record {
    bytes = d.bytes;
    still_open = d.still_open;
    no_reply = d.no_reply;
    fit = d.fit;
    are = exact_push_other (DueAt c) m.calls (due_calls r.due) (new_call c a) (λ q. let e : OnWay ≡ Answered q.2.0 = q.2.1 in cc) d.are;
    tags = Each-weaker (DueIs m) (DueIs n) r.due (λ b is. due_there m n b is (get-push_old m.calls b.tag.call is.tag.x (new_call c a) is.tag.at) (rank-push m.calls b.tag.call is.tag.x (new_call c a) is.tag.at) is.in_log) d.tags;
    rising = d.rising;
    ids = Each-weaker (λ b. Bears os k.calls b.tag b.last) (λ b. Bears os' indexes' b.tag b.last) r.due
        (λ b e. kept_bears os (call.id, o) (awaits_reply kind) k.calls (length (shown_calls m.calls)) b.tag b.last e) d.ids;
    streams = streams_more os (call.id, o) (awaits_reply kind) k.calls r.due refl d.ids d.streams;
  }

  ids_kept : (ts : List Tag) → IdsFit os k.calls ts → IdsFit os' indexes' ts
  ids_kept ts e = Each-weaker (λ b. b.asked.more_to_come ≡ false → Bears os k.calls b None) (λ b. b.asked.more_to_come ≡ false → Bears os' indexes' b None) ts
      (λ b e loud. kept_bears os (call.id, o) (awaits_reply kind) k.calls (length (shown_calls m.calls)) b None (e loud)) e

  new_bears : a.more_to_come ≡ false → Bears os' indexes' t None
  new_bears loud = record {
    bearer_is = new_id os call.id o (awaits_reply kind) free loud;
    at = rw is_count (get-push_new k.calls (length (shown_calls m.calls)));
    exhaust_allowed = refl;
  }

  pub issue_fits : Fits limit c (conn_issued m k kind payload call) (with_new m (new_call c (asked_as kind payload))) (route_issued m r kind payload call)
  issue_fits = record {
    made = record {
      limit_up = f.made.limit_up;
      limit_down = f.made.limit_down;
      connection = f.made.connection;
      reply_id = f.made.reply_id;
      request_id = request_id_behind k.client.requests.next_id _ call.id accepted.1.next.id f.made.request_id;
      numbered = numbered;
    };
    raw_is = f.raw_is;
    client_is = f.client_is;
    server_is = f.server_is;
    wait = λ lives. let w = f.wait lives in wait_kept c k.server.waiting m n r.waiting
        (exact_push_other (WaitingAt c) m.calls (tag_calls r.waiting) (new_call c a) (λ q. let e : OnWay ≡ Waiting = q.1 in cc) w.are) (kept_push m.calls (new_call c a)) w;
    up = λ lives raw. issue_up (f.up lives raw);
    down = λ lives. issue_down (f.down lives);
    onway_ids = λ x y. Each-push (λ b. b.asked.more_to_come ≡ false → Bears os' indexes' b None) r.onway t (ids_kept r.onway (f.onway_ids x y)) new_bears;
    waiting_ids = λ x y. ids_kept r.waiting (f.waiting_ids x y);
    up_uncut = f.up_uncut;
    down_uncut = f.down_uncut;
  }
