-- A raw connection goes on: its server changes, the machine does, or both do.
use Rattle.std.proofs.Common.{◌≡◌, ℕ, suc, ◌≤◌, true, false, List, [], ◌∷◌, ◌++◌, length, map, refl, sym, ◌∙◌, ap, subst, arith, append_assoc, inl, inr}
use Rattle.std.specs.Prelude.{if◌then◌else◌, slice_get}
use Rattle.std.proofs.lemmas.List.{append-nil}
use Rattle.wire_msg.specs.{IsBad, IsOpen, Message, SpellsMsg}
use Rattle.wire_msg.specs.Standing.{in_header}
use Rattle.wire_msg.specs.declared.fault.MsgFault.{MsgFault}
use Rattle.wire_msg.proofs.Lemmas.{spelled-append, spelled_alone}
use Rattle.wire_peer.specs.{asked_by, closed_for}
use Rattle.wire_peer.specs.declared.server_state.ServerCause.{ServerCause}
use Rattle.wire_peer.specs.declared.server_state.ServerCause.TheVariants.{Message as BadMessage}
use Rattle.wire_peer.specs.declared.server_state.ServerState.TheVariants.{Open, Closed}
use Rattle.wire_model.specs.Conns.{Conn}
use Rattle.wire_model.specs.Machines.{Call, Machine, client_gone, lost, never, server_gone, stranger, with_new}
use Rattle.wire_model.specs.Hostile.{IsNamed, RawEntry, calls_of}
use Rattle.wire_model.specs.Shown.{IsStopped}
use Rattle.wire_model.proofs.Lists.{Each-push, Each-weaker, get-map, get-push_new, get-push_old, map-push}
use Rattle.wire_model.proofs.Routes.{Tag}
use Rattle.wire_model.proofs.Kept.{SameAt}
use Rattle.wire_model.proofs.ConnCalls.{before-last, before-map, before-push, calls-map, calls-push_here, calls_before, is_here}
use Rattle.wire_model.proofs.RawEntries.{entry_never, named_by, named_map, named_push, closed_by_none, open_not_stopped, right_stays, stopped_before, stopped_stays}
use Rattle.wire_model.proofs.RawFits.{IsLeft, RawFits, StandsFor}

-- ---- the server alone changes

-- it took a piece, put nothing out, and what stopped it before stops it still
pub raw_server : {H : Type 0} (limit c : ℕ) (k k' : Conn) (m : Machine H) (waiting : List Tag) (taken given given' piece : List ℕ)
    → k'.server.held ≡ k.server.held ++ piece → IsLeft limit k'.server.held → given' ++ k'.server.output ≡ given ++ k.server.output → k'.server.next_id ≡ k.server.next_id
    → (IsStopped k.server.state → IsStopped k'.server.state) → (IsStopped k'.server.state → IsStopped k.server.state) → RawFits limit c k m waiting taken given → RawFits limit c k' m waiting (taken ++ piece) given'
raw_server limit c k k' m waiting taken given given' piece held left output next stays back r = record {
  messages = r.messages;
  bytes = r.bytes;
  spelled = r.spelled;
  joined = ap (λ b. b ++ piece) r.joined ∙ append_assoc r.bytes k.server.held piece ∙ ap (λ b. r.bytes ++ b) (sym held);
  left = left;
  strangers = r.strangers;
  waits = r.waits;
  raw_entries = r.raw_entries;
  entries = r.entries;
  are = r.are;
  named = r.named;
  once = r.once;
  right = λ i t g. right_stays k.server.state k'.server.state (length r.raw_entries) i t stays back (r.right i t g);
  given_is = output ∙ r.given_is;
  next = next ∙ r.next;
}

pub raw_still : {H : Type 0} (limit c : ℕ) (k k' : Conn) (m : Machine H) (waiting : List Tag) (taken given given' : List ℕ)
    → k'.server.held ≡ k.server.held → given' ++ k'.server.output ≡ given ++ k.server.output → k'.server.next_id ≡ k.server.next_id
    → (IsStopped k.server.state → IsStopped k'.server.state) → (IsStopped k'.server.state → IsStopped k.server.state) → RawFits limit c k m waiting taken given → RawFits limit c k' m waiting taken given'
raw_still limit c k k' m waiting taken given given' held output next stays back r =
    subst (λ b. RawFits limit c k' m waiting b given') (append-nil taken)
    (raw_server limit c k k' m waiting taken given given' [] (held ∙ sym (append-nil k.server.held)) (subst (IsLeft limit) (sym held) r.left) output next stays back r)

-- nothing of its server is changed
pub raw_kept : {H : Type 0} (limit c : ℕ) (k k' : Conn) (m : Machine H) (waiting : List Tag) (taken given : List ℕ)
    → k'.server.held ≡ k.server.held → k'.server.output ≡ k.server.output → k'.server.next_id ≡ k.server.next_id → k'.server.state ≡ k.server.state
    → RawFits limit c k m waiting taken given → RawFits limit c k' m waiting taken given
raw_kept limit c k k' m waiting taken given held output next state r =
    raw_still limit c k k' m waiting taken given given held (ap (λ b. given ++ b) output) next (subst IsStopped (sym state)) (subst IsStopped state) r

-- a piece leaves it inside a message
pub raw_need : {H : Type 0} (limit c : ℕ) (k k' : Conn) (m : Machine H) (waiting : List Tag) (taken given piece : List ℕ)
    → k'.server.held ≡ k.server.held ++ piece → IsOpen limit k'.server.held → k'.server.output ≡ k.server.output → k'.server.next_id ≡ k.server.next_id → k'.server.state ≡ k.server.state
    → RawFits limit c k m waiting taken given → RawFits limit c k' m waiting (taken ++ piece) given
raw_need limit c k k' m waiting taken given piece held still output next state r =
    raw_server limit c k k' m waiting taken given given piece held (inl still) (ap (λ b. given ++ b) output) next (subst IsStopped (sym state)) (subst IsStopped state) r

-- bytes are taken away from what it put out
pub raw_taken : {H : Type 0} (limit c : ℕ) (k k' : Conn) (m : Machine H) (waiting : List Tag) (taken given bytes : List ℕ)
    → k'.server.held ≡ k.server.held → k.server.output ≡ bytes ++ k'.server.output → k'.server.next_id ≡ k.server.next_id → k'.server.state ≡ k.server.state
    → RawFits limit c k m waiting taken given → RawFits limit c k' m waiting taken (given ++ bytes)
raw_taken limit c k k' m waiting taken given bytes held output next state r =
    raw_still limit c k k' m waiting taken given (given ++ bytes) held (append_assoc given bytes k'.server.output ∙ ap (λ b. given ++ b) (sym output)) next (subst IsStopped (sym state)) (subst IsStopped state) r

-- ---- the machine alone changes

asked_map : (f : Call → Call) (xs : List Call) → ((x : Call) → (f x).asked ≡ x.asked) → map (λ (x : Call). x.asked) (map f xs) ≡ map (λ (x : Call). x.asked) xs
asked_map f [] e = refl
asked_map f (x ∷ xs) e = λ i. e x i ∷ asked_map f xs e i

-- an event of another connection
pub raw_same : {H : Type 0} (limit c : ℕ) (k : Conn) (m n : Machine H) (waiting : List Tag) (taken given : List ℕ) → SameAt c m n → RawFits limit c k m waiting taken given → RawFits limit c k n waiting taken given
raw_same limit c k m n waiting taken given s r = record {
  messages = r.messages;
  bytes = r.bytes;
  spelled = r.spelled;
  joined = r.joined;
  left = r.left;
  strangers = ap (map (λ (x : Call). x.asked)) s.calls ∙ r.strangers;
  waits = λ lives. Each-weaker (StandsFor c m.calls r.messages) (StandsFor c n.calls r.messages) waiting
      (λ t a. record {
        x = a.x;
        there = s.there t.call a.x a.there a.here;
        here = a.here;
        message = a.message;
        at = ap (slice_get r.messages) (s.before t.call a.x a.there) ∙ a.at;
        id = a.id;
      }) (r.waits (sym s.server ∙ lives));
  raw_entries = r.raw_entries;
  entries = s.entries ∙ r.entries;
  are = r.are;
  named = λ i t g. named i t (r.named i t g);
  once = r.once;
  right = r.right;
  given_is = r.given_is;
  next = r.next;
}
  where
    named : (i : ℕ) (t : RawEntry) → IsNamed c m.calls m.log i t → IsNamed c n.calls n.log i t
    named i t a = subst (λ log. IsNamed c n.calls log i t) (sym s.more.1)
        (named_by c m.calls n.calls m.log s.more.0 i t a a.stranger (ap (λ xs. slice_get xs t.index) s.calls ∙ a.at) a.names)

-- its server is lost; nothing more is said of what waits
pub raw_gone : {H : Type 0} (limit c : ℕ) (k : Conn) (m : Machine H) (waiting waiting' : List Tag) (taken given : List ℕ) → RawFits limit c k m waiting taken given → RawFits limit c k (server_gone m c) waiting' taken given
raw_gone limit c k m waiting waiting' taken given r = record {
  messages = r.messages;
  bytes = r.bytes;
  spelled = r.spelled;
  joined = r.joined;
  left = r.left;
  strangers = ap (map (λ (x : Call). x.asked)) (calls-map c (never c) m.calls (λ x. refl)) ∙ asked_map (never c) (calls_of c m.calls) (λ x. refl) ∙ r.strangers;
  waits = λ lives. absurd (let gone : false ≡ true = sym (ap (λ b. if b then false else m.server_lives c) (is_here c c refl)) ∙ lives in cc);
  raw_entries = r.raw_entries;
  entries = r.entries;
  are = r.are;
  named = λ i t g. named_map c (never c) m.calls m.log i t (λ x. refl) (entry_never c) (r.named i t g);
  once = r.once;
  right = r.right;
  given_is = r.given_is;
  next = r.next;
}

-- a client is lost, this connection's or another's
pub raw_lost : {H : Type 0} (limit c d : ℕ) (k : Conn) (m : Machine H) (waiting : List Tag) (taken given : List ℕ) → RawFits limit c k m waiting taken given → RawFits limit c k (client_gone m d) waiting taken given
raw_lost limit c d k m waiting taken given r = record {
  messages = r.messages;
  bytes = r.bytes;
  spelled = r.spelled;
  joined = r.joined;
  left = r.left;
  strangers = ap (map (λ (x : Call). x.asked)) (calls-map c (lost d) m.calls (λ x. refl)) ∙ asked_map (lost d) (calls_of c m.calls) (λ x. refl) ∙ r.strangers;
  waits = λ lives. Each-weaker (StandsFor c m.calls r.messages) (StandsFor c (map (lost d) m.calls) r.messages) waiting
      (λ t a. record {
        x = lost d a.x;
        there = get-map (lost d) m.calls t.call a.x a.there;
        here = a.here;
        message = a.message;
        at = ap (slice_get r.messages) (before-map c (lost d) m.calls t.call (λ x. refl)) ∙ a.at;
        id = a.id;
      }) (r.waits lives);
  raw_entries = r.raw_entries;
  entries = r.entries;
  are = r.are;
  named = λ i t g. named_map c (lost d) m.calls m.log i t (λ x. refl) (λ x e names. names) (r.named i t g);
  once = r.once;
  right = r.right;
  given_is = r.given_is;
  next = r.next;
}

-- ---- both change

-- what it holds becomes bad, and it closes
pub raw_bad : {H : Type 0} (limit c : ℕ) (k k' : Conn) (m : Machine H) (waiting waiting' : List Tag) (taken given piece : List ℕ) (f : MsgFault)
    → k.server.state ≡ Open → k'.server.held ≡ k.server.held ++ piece → IsBad limit k'.server.held f → k'.server.output ≡ k.server.output → k'.server.next_id ≡ k.server.next_id → k'.server.state ≡ Closed (BadMessage f)
    → RawFits limit c k m waiting taken given → RawFits limit c k' (server_gone m c) waiting' (taken ++ piece) given
raw_bad limit c k k' m waiting waiting' taken given piece f was held bad output next state r =
    raw_gone limit c k' m waiting waiting' (taken ++ piece) given
    (raw_server limit c k k' m waiting taken given given piece held (inr (f, bad)) (ap (λ b. given ++ b) output) next (λ stopped. absurd (open_not_stopped k.server.state was stopped))
    (λ stopped. absurd (closed_by_none (BadMessage f) (subst IsStopped state stopped) (λ e. cc) (λ e. cc) (λ e. cc))) r)

-- it is told the end, or is closed for whatever cause
pub raw_ended : {H : Type 0} (limit c : ℕ) (k k' : Conn) (m : Machine H) (waiting waiting' : List Tag) (taken given : List ℕ) (cause : ServerCause)
    → k'.server.held ≡ k.server.held → k'.server.output ≡ k.server.output → k'.server.next_id ≡ k.server.next_id → k'.server.state ≡ closed_for cause k.server.state → (IsStopped (Closed cause) → ⊥)
    → RawFits limit c k m waiting taken given → RawFits limit c k' (server_gone m c) waiting' taken given
raw_ended limit c k k' m waiting waiting' taken given cause held output next state other r =
    raw_gone limit c k' m waiting waiting' taken given
    (raw_still limit c k k' m waiting taken given given held (ap (λ b. given ++ b) output) next (λ stopped. subst IsStopped (sym state) (stopped_stays cause k.server.state stopped))
    (λ stopped. stopped_before cause k.server.state other (subst IsStopped state stopped)) r)

-- a message becomes whole: a stranger appears, and waits
pub raw_whole : {H : Type 0} (limit c : ℕ) (k k' : Conn) (m : Machine H) (waiting : List Tag) (taken given piece : List ℕ) (msg : Message) (t : Tag)
    → SpellsMsg msg (k.server.held ++ piece) → length (k.server.held ++ piece) ≤ limit → t.call ≡ length m.calls → t.id ≡ msg.id
    → k'.server.held ≡ [] → k'.server.output ≡ k.server.output → k'.server.next_id ≡ k.server.next_id → k'.server.state ≡ k.server.state
    → RawFits limit c k m waiting taken given → RawFits limit c k' (with_new m (stranger c (asked_by msg))) (waiting ++ t ∷ []) (taken ++ piece) given
raw_whole limit c k k' m waiting taken given piece msg t spells within call id held output next state r = record {
  messages = r.messages ++ msg ∷ [];
  bytes = r.bytes ++ (k.server.held ++ piece);
  spelled = spelled-append limit r.messages (msg ∷ []) r.bytes (k.server.held ++ piece) r.spelled (spelled_alone limit msg (k.server.held ++ piece) spells within);
  joined = ap (λ b. b ++ piece) r.joined ∙ append_assoc r.bytes k.server.held piece ∙ sym (append-nil (r.bytes ++ (k.server.held ++ piece))) ∙ ap (λ b. (r.bytes ++ (k.server.held ++ piece)) ++ b) (sym held);
  left = inl (subst (IsOpen limit) (sym held) (in_header (omega arith)));
  strangers = ap (map (λ (x : Call). x.asked)) (calls-push_here c m.calls new refl) ∙ map-push (λ (x : Call). x.asked) (calls_of c m.calls) new
      ∙ ap (λ xs. xs ++ asked_by msg ∷ []) r.strangers ∙ sym (map-push asked_by r.messages msg);
  waits = λ lives. Each-push (StandsFor c (m.calls ++ new ∷ []) (r.messages ++ msg ∷ [])) waiting t
      (Each-weaker (StandsFor c m.calls r.messages) (StandsFor c (m.calls ++ new ∷ []) (r.messages ++ msg ∷ [])) waiting older (r.waits lives)) newest;
  raw_entries = r.raw_entries;
  entries = r.entries;
  are = λ i u g. get-push_old r.messages u.index u.message msg (r.are i u g);
  named = λ i u g. named_push c m.calls m.log i u new refl (r.named i u g);
  once = r.once;
  right = λ i u g. right_stays k.server.state k'.server.state (length r.raw_entries) i u (subst IsStopped (sym state)) (subst IsStopped state) (r.right i u g);
  given_is = ap (λ b. given ++ b) output ∙ r.given_is;
  next = next ∙ r.next;
}
  where
    new : Call
    new = stranger c (asked_by msg)

    older : (u : Tag) → StandsFor c m.calls r.messages u → StandsFor c (m.calls ++ new ∷ []) (r.messages ++ msg ∷ []) u
    older u a = record {
      x = a.x;
      there = get-push_old m.calls u.call a.x new a.there;
      here = a.here;
      message = a.message;
      at = ap (slice_get (r.messages ++ msg ∷ [])) (before-push c m.calls u.call a.x new a.there) ∙ get-push_old r.messages (calls_before c m.calls u.call) a.message msg a.at;
      id = a.id;
    }

    -- as many messages as calls
    as_many : (xs : List Call) (ms : List Message) → map (λ (x : Call). x.asked) xs ≡ map asked_by ms → length xs ≡ length ms
    as_many [] [] e = refl
    as_many [] (n ∷ ms) e = absurd (cc)
    as_many (x ∷ xs) [] e = absurd (cc)
    as_many (x ∷ xs) (n ∷ ms) e = ap suc (as_many xs ms (let tails : map (λ (y : Call). y.asked) xs ≡ map asked_by ms = cc in tails))

    newest : StandsFor c (m.calls ++ new ∷ []) (r.messages ++ msg ∷ []) t
    newest = record {
      x = new;
      there = ap (slice_get (m.calls ++ new ∷ [])) call ∙ get-push_new m.calls new;
      here = refl;
      message = msg;
      at = ap (slice_get (r.messages ++ msg ∷ [])) (ap (calls_before c (m.calls ++ new ∷ [])) call ∙ before-last c m.calls new ∙ as_many (calls_of c m.calls) r.messages r.strangers) ∙ get-push_new r.messages msg;
      id = sym id;
    }
