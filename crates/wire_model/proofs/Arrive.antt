-- The server takes a piece: nothing changes, or the first request on the way up arrives.
use Rattle.std.proofs.Common.{◌≡◌, ℕ, ◌<◌, ◌^◌, true, false, List, [], ◌∷◌, ◌++◌, length, refl, sym, ◌∙◌, ap, append_assoc, None, inl, inr}
use Rattle.std.specs.Prelude.{slice_get, slice_set}
use Rattle.std.specs.List.{flat_map}
use Rattle.std.proofs.lemmas.List.{append_cancel_left}
use Rattle.std.proofs.lemmas.Option.{same_Some}
use Rattle.wire_msg.specs.{IsBad, IsOpen, Message, SpellsMsg}
use Rattle.wire_msg.specs.declared.fault.MsgFault.{MsgFault}
use Rattle.wire_stream.specs.declared.reader_state.ReaderState.TheVariants.{Need, Ready}
use Rattle.wire_peer.specs.{ServerView, asked_by}
use Rattle.wire_peer.specs.Servers.{holding}
use Rattle.wire_peer.specs.declared.calls.CallKind.TheVariants.{Plain}
use Rattle.wire_model.specs.Conns.{Conn}
use Rattle.wire_model.specs.Machines.{Call, CallIs, Place, OnWay, Waiting, Answered, Machine, placed, stranger, with_call, with_new}
use Rattle.wire_model.specs.Moves.{with_client_output}
use Rattle.wire_model.proofs.Lists.{Each-push, map-push, get-set_other, get-push_new, same_or_not}
use Rattle.wire_model.proofs.Wires.{spells_first, bad_begins, spells_some, bad_some, open_nil}
use Rattle.wire_model.proofs.Exacts.{exact_set, exact_out, exact_in, exact_push}
use Rattle.wire_model.proofs.Ranks.{rank, rank-set}
use Rattle.wire_model.proofs.Routes.{Tag, Due, Route, TagIs, DueIs, UpFits, Fits, Bears, IsRequest, AreRequests, OnWayAt, WaitingAt, DueAt, tag_calls, tag_message, due_calls, sent, made_alike}
use Rattle.wire_model.proofs.Kept.{tags_kept, kept_set, kept_push, down_kept, due_there}

-- the connection with this server and this output of its client
abbrev pub conn_up : Conn → ServerView → List ℕ → Conn
conn_up k s output = record k { client = with_client_output k.client output; server = s }

pub requests_push : (bs : List (List ℕ)) (ts : List Tag) (b : List ℕ) (t : Tag) → AreRequests bs ts → IsRequest b t → AreRequests (bs ++ b ∷ []) (ts ++ t ∷ [])
requests_push [] [] b t all is = (is, tt)
requests_push [] (u ∷ ts) b t all is = absurd all
requests_push (a ∷ bs) [] b t all is = absurd all
requests_push (a ∷ bs) (u ∷ ts) b t all is = (all.0, requests_push bs ts b t all.1 is)

-- replies that are due stay due when the place of an unanswered call changes
pub due_set : {H : Type 0} (m : Machine H) (i : ℕ) (x : Call) (p : Place) → CallIs m.calls i x → ((e : ℕ) → x.place ≡ Answered e → ⊥) → (d : Due) → DueIs m d → DueIs (with_call m i (placed x p)) d
due_set m i x p at n d is = elim (same_or_not d.tag.call i) [
  | inl s ↦ absurd (let same : is.tag.x ≡ x = same_Some is.tag.x x (sym is.tag.at ∙ ap (slice_get m.calls) s ∙ at) in n d.entry (ap (λ (z : Call). z.place) (sym same) ∙ is.place))
  | inr o ↦ due_there m (with_call m i (placed x p)) d is (get-set_other m.calls i d.tag.call (placed x p) o ∙ is.tag.at) (rank-set m.calls i x (placed x p) at refl d.tag.call) is.in_log
]

module _ {H : Type 0} (limit : ℕ) (short : limit < 2 ^ 31) (c : ℕ) (k : Conn) (m : Machine H) (r : Route) (f : Fits limit c k m r) (lives : m.server_lives c ≡ true) (ours : k.raw ≡ false) (p rest : List ℕ) (output : k.client.requests.output ≡ p ++ rest) where
  -- inside a message
  pub need_fits : IsOpen limit (k.server.held ++ p) → Fits limit c (conn_up k (holding k.server (k.server.held ++ p) Need) rest) m r
  need_fits o = record {
    made = made_alike limit c k _ refl refl refl refl refl refl refl f.made;
    raw_is = f.raw_is;
    client_is = f.client_is;
    server_is = f.server_is;
    wait = f.wait;
    up = λ l raw. let u = f.up l raw in record {
      bytes = append_assoc k.server.held p rest ∙ ap (λ b. k.server.held ++ b) (sym output) ∙ u.bytes;
      still_open = o;
      fit = u.fit;
      are = u.are;
      tags = u.tags;
      rising = u.rising;
    };
    down = f.down;
    onway_ids = f.onway_ids;
    waiting_ids = f.waiting_ids;
    up_uncut = f.up_uncut;
    down_uncut = f.down_uncut;
  }

  joined : (onway : List Tag) → UpFits limit c k.server.held k.client.requests.output m onway → (k.server.held ++ p) ++ rest ≡ flat_map sent onway
  joined onway u = append_assoc k.server.held p rest ∙ ap (λ b. k.server.held ++ b) (sym output) ∙ u.bytes

  -- the bytes on the way up are never bad
  pub never_bad : (onway : List Tag) (fault : MsgFault) → UpFits limit c k.server.held k.client.requests.output m onway → IsBad limit (k.server.held ++ p) fault → ⊥
  never_bad [] fault u bad = bad_some limit (k.server.held ++ p) rest fault bad (joined [] u)
  never_bad (t ∷ ts) fault u bad = bad_begins limit (tag_message t) (k.server.held ++ p) rest (flat_map sent ts) fault short u.fit.0 bad (joined (t ∷ ts) u)

  -- a message that becomes whole is the first on the way
  pub first_of_way : (msg : Message) (onway : List Tag) → UpFits limit c k.server.held k.client.requests.output m onway → SpellsMsg msg (k.server.held ++ p) → (t : Tag) × (ts : List Tag) × (onway ≡ t ∷ ts) × (msg ≡ tag_message t) × (rest ≡ flat_map sent ts)
  first_of_way msg [] u s = absurd (spells_some msg (k.server.held ++ p) rest s (joined [] u))
  first_of_way msg (t ∷ ts) u s =
      let same = spells_first limit msg (tag_message t) (k.server.held ++ p) rest (flat_map sent ts) short u.fit.0 s (joined (t ∷ ts) u) in
      (t, ts, refl, same.0, append_cancel_left (sent t) rest (flat_map sent ts) (ap (λ b. b ++ rest) (sym same.1) ∙ joined (t ∷ ts) u))

  -- the first request arrives
  pub arrive_fits : (msg : Message) (t : Tag) (ts : List Tag) → SpellsMsg msg (k.server.held ++ p) → r.onway ≡ t ∷ ts → UpFits limit c k.server.held k.client.requests.output m (t ∷ ts) → (x : Call) → CallIs m.calls t.call x → OnWayAt c x → msg ≡ tag_message t → rest ≡ flat_map sent ts
      → Fits limit c (conn_up k (holding k.server (k.server.held ++ p) Ready) rest) (with_call m t.call (placed x Waiting)) (record { onway = ts; waiting = r.waiting ++ t ∷ []; due = r.due })
  arrive_fits msg t ts spells way u x at on same is_rest = record {
    made = made_alike limit c k _ refl refl refl refl refl refl refl f.made;
    raw_is = f.raw_is;
    client_is = f.client_is;
    server_is = f.server_is;
    wait = λ l. let w = f.wait l in record {
      same = requests_push k.server.waiting r.waiting (k.server.held ++ p) t w.same (record { message = msg; spells = spells; id = ap (λ (z : Message). z.id) same; asked = ap asked_by same });
      are = rw (map-push (λ (a : Tag). a.call) r.waiting t) (exact_in (WaitingAt c) m.calls (tag_calls r.waiting) t.call x (placed x Waiting) at
          (λ q. let e : OnWay ≡ Waiting = sym on.1 ∙ q.1 in cc) (on.0, refl) w.are);
      tags = tags_kept m.calls (slice_set m.calls t.call (placed x Waiting)) (r.waiting ++ t ∷ []) (kept_set m.calls t.call x (placed x Waiting) at refl refl) (Each-push (TagIs m.calls) r.waiting t w.tags u.tags.0);
    };
    up = λ l raw. record {
      bytes = is_rest;
      still_open = open_nil limit;
      fit = u.fit.1;
      are = exact_out (OnWayAt c) m.calls (tag_calls (t ∷ ts)) t.call 0 x (placed x Waiting) at (λ q. let e : Waiting ≡ OnWay = q.1 in cc) refl u.are;
      tags = tags_kept m.calls (slice_set m.calls t.call (placed x Waiting)) ts (kept_set m.calls t.call x (placed x Waiting) at refl refl) u.tags.1;
      rising = u.rising.1;
    };
    down = λ l. let d = f.down l in down_kept limit c k.client.held k.server.output k.client.reply k.client.requests.outstanding k.calls m (with_call m t.call (placed x Waiting)) r.due
        (exact_set (DueAt c) m.calls (due_calls r.due) t.call x (placed x Waiting) at
        (λ q. let e : OnWay ≡ Answered q.2.0 = sym on.1 ∙ q.2.1 in cc) (λ q. let e : Waiting ≡ Answered q.2.0 = q.2.1 in cc) d.are)
        (due_set m t.call x Waiting at (λ e is. let e' : OnWay ≡ Answered e = sym on.1 ∙ is in cc))
        d;
    onway_ids = λ a b. let all = f.onway_ids a b in (rw way at all).1;
    waiting_ids = λ a b. let all = f.onway_ids a b in
        Each-push (λ a. a.asked.more_to_come ≡ false → Bears k.client.requests.outstanding k.calls a None) r.waiting t (f.waiting_ids a b) (rw way at all).0;
    up_uncut = f.up_uncut;
    down_uncut = f.down_uncut;
  }

-- a raw connection: inside a message
module _ {H : Type 0} (limit c : ℕ) (k : Conn) (m : Machine H) (r : Route) (f : Fits limit c k m r) (raw : k.raw ≡ true) (held : List ℕ) where
  pub raw_need_fits : Fits limit c (record k { server = holding k.server held Need }) m r
  raw_need_fits = record {
    made = made_alike limit c k _ refl refl refl refl refl refl refl f.made;
    raw_is = f.raw_is;
    client_is = f.client_is;
    server_is = f.server_is;
    wait = f.wait;
    up = λ l ours. absurd (let no : true ≡ false = sym raw ∙ ours in cc);
    down = f.down;
    onway_ids = f.onway_ids;
    waiting_ids = f.waiting_ids;
    up_uncut = λ ours. absurd (let no : true ≡ false = sym raw ∙ ours in cc);
    down_uncut = f.down_uncut;
  }

  abbrev pub stranger_tag : Message → Tag
  stranger_tag msg = record {
    call = length m.calls;
    index = rank (m.calls ++ stranger c (asked_by msg) ∷ []) (length m.calls);
    number = 0;
    id = msg.id;
    kind = Plain;
    asked = asked_by msg;
  }

  -- a stranger appears
  pub appear_fits : (msg : Message) → SpellsMsg msg held → (dead : m.client_lives c ≡ false)
      → Fits limit c (record k { server = holding k.server held Ready }) (with_new m (stranger c (asked_by msg))) (record { onway = r.onway; waiting = r.waiting ++ stranger_tag msg ∷ []; due = r.due })
  appear_fits msg spells dead = record {
    made = made_alike limit c k _ refl refl refl refl refl refl refl f.made;
    raw_is = f.raw_is;
    client_is = f.client_is;
    server_is = f.server_is;
    wait = λ l. let w = f.wait l in record {
      same = requests_push k.server.waiting r.waiting held (stranger_tag msg) w.same (record { message = msg; spells = spells; id = refl; asked = refl });
      are = rw (map-push (λ (a : Tag). a.call) r.waiting (stranger_tag msg)) (exact_push (WaitingAt c) m.calls (tag_calls r.waiting) (stranger c (asked_by msg)) (refl, refl) w.are);
      tags = Each-push (TagIs (m.calls ++ stranger c (asked_by msg) ∷ [])) r.waiting (stranger_tag msg) (tags_kept m.calls (m.calls ++ stranger c (asked_by msg) ∷ []) r.waiting (kept_push m.calls (stranger c (asked_by msg))) w.tags)
          (record { x = stranger c (asked_by msg); at = get-push_new m.calls (stranger c (asked_by msg)); asked = refl; index = refl });
    };
    up = λ l ours. absurd (let no : true ≡ false = sym raw ∙ ours in cc);
    down = λ l. absurd (let no : true ≡ false = sym l ∙ dead in cc);
    onway_ids = λ l b. absurd (let no : true ≡ false = sym l ∙ dead in cc);
    waiting_ids = λ l b. absurd (let no : true ≡ false = sym l ∙ dead in cc);
    up_uncut = λ ours. absurd (let no : true ≡ false = sym raw ∙ ours in cc);
    down_uncut = f.down_uncut;
  }
