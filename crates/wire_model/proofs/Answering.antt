-- The server answers a waiting request: a new entry, and replies that are due, or none.
use Rattle.std.proofs.Common.{◌≡◌, ℕ, ◌<◌, zero, suc, true, false, List, [], ◌∷◌, ◌++◌, length, map, refl, sym, subst, ◌∙◌, ap, arith, Some, None, inl, inr}
use Rattle.std.specs.Prelude.{slice_get, slice_set, remove}
use Rattle.std.proofs.lemmas.Option.{same_Some, slice_get_within, none-some}
use Rattle.wire_msg.specs.{Content, Message, SpellsMsg}
use Rattle.wire_peer.specs.{LogEntry, ServerView, Table, asked_by, chain, written}
use Rattle.wire_model.specs.Conns.{Conn}
use Rattle.wire_model.specs.Machines.{Call, CallIs, Place, OnWay, Waiting, Answered, Mute, Pending, Machine, placed, logged}
use Rattle.wire_model.specs.Shown.{IsOpenOrStopped}
use Rattle.wire_model.proofs.Chains.{AllFit, IsReplyId}
use Rattle.wire_model.proofs.Exacts.{exact_set, exact_out, exact_in}
use Rattle.wire_model.proofs.Kept.{tags_kept, kept_set, down_kept, up_kept, due_there, Rising-push, one_more}
use Rattle.wire_model.proofs.Lists.{Has, Each, Each-push, Each-weaker, Each-remove, map-push, map-remove, get-set_same, get-set_other, get-push_old, get-push_new, get-map, same_or_not}
use Rattle.wire_model.proofs.Ranks.{rank-set}
use Rattle.wire_model.proofs.Routes.{AreRequests, Bears, IsRequest, Tag, Due, Route, TagIs, DueIs, WaitFits, UpFits, DownFits, Fits, Fair, IsMade, Streams, OnWayAt, WaitingAt, DueAt, server_lives, tag_calls, due_messages, due_calls, spelled}
use Rattle.wire_model.proofs.Wires.{same_request}

-- with one taken out of both, the bytes are still the requests of the tags, one by one
pub AreRequests-remove : (bytes : List (List ℕ)) (ts : List Tag) (i : ℕ) → AreRequests bytes ts → AreRequests (remove bytes i) (remove ts i)
AreRequests-remove [] [] zero a = tt
AreRequests-remove [] [] (suc i) a = tt
AreRequests-remove [] (t ∷ ts) i a = absurd a
AreRequests-remove (b ∷ bytes) [] i a = absurd a
AreRequests-remove (b ∷ bytes) (t ∷ ts) zero a = a.1
AreRequests-remove (b ∷ bytes) (t ∷ ts) (suc i) a = (a.0, AreRequests-remove bytes ts i a.1)

-- a request that waits is that of a tag
pub waits_is : (requests : List (List ℕ)) (ts : List Tag) (i : ℕ) (bytes : List ℕ) → AreRequests requests ts → slice_get requests i ≡ Some bytes → (t : Tag) × (slice_get ts i ≡ Some t) × IsRequest bytes t
waits_is [] ts i bytes a g = absurd (none-some bytes g)
waits_is (b ∷ requests) [] i bytes a g = absurd a
waits_is (b ∷ requests) (t ∷ ts) zero bytes a g = (t, refl, subst (λ z. IsRequest z t) (same_Some b bytes g) a.0)
waits_is (b ∷ requests) (t ∷ ts) (suc i) bytes a g = waits_is requests ts i bytes a.1 g

-- the message that its bytes spell has the id of the tag, and asks what the tag asks
pub asks_that : (m : Message) (bytes : List ℕ) (t : Tag) → IsRequest bytes t → SpellsMsg m bytes → (m.id ≡ t.id) × (asked_by m ≡ t.asked)
asks_that m bytes t is s =
    let same : m ≡ is.message = same_request m is.message bytes s is.spells in
    (ap (λ (z : Message). z.id) same ∙ is.id, ap asked_by same ∙ is.asked)

pub due_logged : {H : Type 0} (m : Machine H) (i : ℕ) (x : Call) (p : Place) (en : LogEntry) (h : H) → CallIs m.calls i x → ((e : ℕ) → x.place ≡ Answered e → ⊥) → (d : Due) → DueIs m d → DueIs (logged m i (placed x p) en h) d
due_logged m i x p en h at n d is = elim (same_or_not d.tag.call i) [
  | inl s ↦ absurd (let same : is.tag.x ≡ x = same_Some is.tag.x x (sym is.tag.at ∙ ap (slice_get m.calls) s ∙ at) in n d.entry (ap (λ (z : Call). z.place) (sym same) ∙ is.place))
  | inr o ↦ due_there m (logged m i (placed x p) en h) d is (get-set_other m.calls i d.tag.call (placed x p) o ∙ is.tag.at) (rank-set m.calls i x (placed x p) at refl d.tag.call) (get-push_old m.log d.entry is.entry en is.in_log)
]

entries_below : {H : Type 0} (m : Machine H) (due : List Due) (j : ℕ) → Each (DueIs m) due → Has j (map (λ d. d.entry) due) → j < length m.log
entries_below m [] j e h = absurd h
entries_below m (d ∷ due) j e (inl s) = let within = slice_get_within m.log d.entry e.0.entry e.0.in_log in omega arith
entries_below m (d ∷ due) j e (inr h) = entries_below m due j e.1 h

streams_end : (os : Table) (due : List Due) (d : Due) → d.last ≡ None → Streams os due → Streams os (due ++ d ∷ [])
streams_end os [] d n s = (rw n s, tt)
streams_end os (a ∷ due) d n s = (s.0, Each-push (λ b. b.last ≡ None) due d s.1 n)

-- what an answer to the i-th waiting request leaves of the server
pub record IsAnswered (i : ℕ) (old new : ServerView) : Type 0 where
  pub held : new.held ≡ old.held
  pub waiting : new.waiting ≡ remove old.waiting i
  pub still : new.state ≡ old.state
  pub limit : new.limit ≡ old.limit
  pub connection : new.connection ≡ old.connection

module _ {H : Type 0} (limit c : ℕ) (k : Conn) (m : Machine H) (r : Route) (f : Fits limit c k m r)
    (i : ℕ) (t : Tag) (there : slice_get r.waiting i ≡ Some t) (x : Call) (at : CallIs m.calls t.call x) (is : WaitingAt c x) (no_parts : x.parts ≡ [])
    (s : ServerView) (after : IsAnswered i k.server s) (next : IsReplyId s.next_id) (en : LogEntry) (h : H) where
  logged_wait : (p : Place) → (p ≡ Waiting → ⊥) → WaitFits c k.server.waiting m r.waiting → WaitFits c s.waiting (logged m t.call (placed x p) en h) (remove r.waiting i)
  logged_wait p n w = record {
    same = rw (after.waiting) (AreRequests-remove k.server.waiting r.waiting i w.same);
    are = rw (map-remove (λ (a : Tag). a.call) r.waiting i) (exact_out (WaitingAt c) m.calls (tag_calls r.waiting) t.call i x (placed x p) at (λ q. n q.1)
        (get-map (λ (a : Tag). a.call) r.waiting i t there) w.are);
    tags = tags_kept m.calls (slice_set m.calls t.call (placed x p)) (remove r.waiting i) (kept_set m.calls t.call x (placed x p) at refl refl) (Each-remove (TagIs m.calls) r.waiting i w.tags);
  }

  logged_up : (p : Place) → (p ≡ OnWay → ⊥) → UpFits limit c k.server.held k.client.requests.output m r.onway → UpFits limit c s.held k.client.requests.output (logged m t.call (placed x p) en h) r.onway
  logged_up p n u = rw (after.held) (up_kept limit c k.server.held k.client.requests.output m (logged m t.call (placed x p) en h) r.onway
      (exact_set (OnWayAt c) m.calls (tag_calls r.onway) t.call x (placed x p) at (λ q. let e : Waiting ≡ OnWay = sym is.1 ∙ q.1 in cc) (λ q. absurd (n q.1)) u.are)
      (kept_set m.calls t.call x (placed x p) at refl refl) u)

  not_answered : (e : ℕ) → x.place ≡ Answered e → ⊥
  not_answered e q = let w : Waiting ≡ Answered e = sym is.1 ∙ q in cc

  uncut : k.raw ≡ false → k.up_cut ≡ false → IsOpenOrStopped s.state
  uncut a b = rw (after.still) (f.up_uncut a b)

  made : IsMade limit c (record k { server = s })
  made = record {
    limit_up = after.limit ∙ f.made.limit_up;
    limit_down = f.made.limit_down;
    connection = after.connection ∙ f.made.connection;
    reply_id = next;
    request_id = f.made.request_id;
    numbered = f.made.numbered;
  }

  -- no reply: a silent request, or one at which the server closes
  pub mute_fits : s.output ≡ k.server.output → Fits limit c (record k { server = s }) (logged m t.call (placed x (Mute (length m.log))) en h) (record { onway = r.onway; waiting = remove r.waiting i; due = r.due })
  mute_fits same = record {
    made = made;
    raw_is = f.raw_is;
    client_is = f.client_is;
    server_is = ap server_lives (after.still) ∙ f.server_is;
    wait = λ l. logged_wait (Mute (length m.log)) (λ q. cc) (f.wait l);
    up = λ l raw. logged_up (Mute (length m.log)) (λ q. cc) (f.up l raw);
    down = λ l. rw same (down_kept limit c k.client.held k.server.output k.client.reply k.client.requests.outstanding k.calls m (logged m t.call (placed x (Mute (length m.log))) en h) r.due
        (exact_set (DueAt c) m.calls (due_calls r.due) t.call x (placed x (Mute (length m.log))) at (λ q. absurd (not_answered q.2.0 q.2.1)) (λ q. let e : Mute (length m.log) ≡ Answered q.2.0 = q.2.1 in cc) (f.down l).are)
        (due_logged m t.call x (Mute (length m.log)) en h at not_answered) (f.down l));
    onway_ids = f.onway_ids;
    waiting_ids = λ a b. Each-remove (λ a. a.asked.more_to_come ≡ false → Bears k.client.requests.outstanding k.calls a None) r.waiting i (f.waiting_ids a b);
    up_uncut = uncut;
    down_uncut = f.down_uncut;
  }

  -- the replies are the last ones on the way down
  module _ (answers : List Content) (said : en.answers ≡ Some answers) (fair : Fair t.asked.exhaust_allowed answers) (fit : AllFit limit (chain k.server.next_id t.id answers))
      (pending : m.client_lives c ≡ true → x.state ≡ Pending) (bears : m.client_lives c ≡ true → Bears k.client.requests.outstanding k.calls t None)
      (put_out : s.output ≡ k.server.output ++ written (chain k.server.next_id t.id answers)) where
    abbrev d : Due
    d = record { tag = t; last = None; next = k.server.next_id; left = answers; entry = length m.log }

    abbrev y : Call
    y = placed x (Answered (length m.log))

    loud_down : m.client_lives c ≡ true → DownFits limit c k.client.held k.server.output k.client.reply k.client.requests.outstanding k.calls m r.due → TagIs m.calls t
        → DownFits limit c k.client.held (k.server.output ++ spelled d) k.client.reply k.client.requests.outstanding k.calls (logged m t.call y en h) (r.due ++ d ∷ [])
    loud_down l old tag = record {
      bytes = one_more spelled k.client.held k.server.output r.due d old.bytes;
      still_open = old.still_open;
      no_reply = old.no_reply;
      fit = Each-push (λ a. AllFit limit (due_messages a)) r.due d old.fit fit;
      are = rw (map-push (λ (a : Due). a.tag.call) r.due d) (exact_in (DueAt c) m.calls (due_calls r.due) t.call x y at (λ q. not_answered q.2.0 q.2.1) (is.0, pending l, (length m.log, refl)) old.are);
      tags = Each-push (DueIs (logged m t.call y en h)) r.due d (Each-weaker (DueIs m) (DueIs (logged m t.call y en h)) r.due (due_logged m t.call x (Answered (length m.log)) en h at not_answered) old.tags)
          (record {
            tag = record { x = y; at = get-set_same m.calls t.call x y at; asked = ap (λ (z : Call). z.asked) (same_Some x tag.x (sym at ∙ tag.at)) ∙ tag.asked; index = rank-set m.calls t.call x y at refl t.call ∙ tag.index };
            place = refl;
            entry = en;
            in_log = get-push_new m.log en;
            answers = said ∙ ap (λ ps. Some (ps ++ answers)) (sym no_parts);
            fair = fair;
          });
      rising = rw (map-push (λ (a : Due). a.entry) r.due d) (Rising-push (map (λ (a : Due). a.entry) r.due) (length m.log) (λ j has. entries_below m r.due j old.tags has) old.rising);
      ids = Each-push (λ a. Bears k.client.requests.outstanding k.calls a.tag a.last) r.due d old.ids (bears l);
      streams = streams_end k.client.requests.outstanding r.due d refl old.streams;
    }

    pub loud_fits : TagIs m.calls t → Fits limit c (record k { server = s }) (logged m t.call y en h) (record { onway = r.onway; waiting = remove r.waiting i; due = r.due ++ d ∷ [] })
    loud_fits tag = record {
      made = made;
      raw_is = f.raw_is;
      client_is = f.client_is;
      server_is = ap server_lives (after.still) ∙ f.server_is;
      wait = λ l. logged_wait (Answered (length m.log)) (λ q. cc) (f.wait l);
      up = λ l raw. logged_up (Answered (length m.log)) (λ q. cc) (f.up l raw);
      down = λ l. rw put_out (loud_down l (f.down l) tag);
      onway_ids = f.onway_ids;
      waiting_ids = λ a b. Each-remove (λ a. a.asked.more_to_come ≡ false → Bears k.client.requests.outstanding k.calls a None) r.waiting i (f.waiting_ids a b);
      up_uncut = uncut;
      down_uncut = f.down_uncut;
    }
