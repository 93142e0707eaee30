-- What is kept of a raw connection along a run: that it answers its own messages only.
use Rattle.std.proofs.Common.{◌≡◌, ℕ, true, List, [], ◌++◌, length, map, refl, sym, ◌∙◌, ap, subst, arith, Some, ◌⊎◌, inl, inr}
use Rattle.std.specs.Prelude.{slice_get, take}
use Rattle.std.proofs.lemmas.List.{append-nil, take_at}
use Rattle.std.proofs.lemmas.Option.{none-some}
use Rattle.wire_msg.specs.{IsBad, IsOpen, IsWhole, Message, Split, AreSpelled, FaultMsg, HeaderFault, header_of, number_at}
use Rattle.wire_msg.specs.Standing.{bad_header, bad_message, in_header}
use Rattle.wire_msg.specs.declared.fault.MsgFault.{MsgFault}
use Rattle.wire_msg.specs.declared.header.MsgHeader.{MsgHeader}
use Rattle.wire_msg.proofs.Lemmas.{bad_not_whole, header_front, least_length, msg_are_bytes, no_msg_fault, open_not_whole, whole_read}
use Rattle.wire_peer.specs.{written}
use Rattle.wire_model.specs.Conns.{Conn}
use Rattle.wire_model.specs.Machines.{Call, CallIs, Machine, Foreign}
use Rattle.wire_model.specs.Hostile.{AreMessages, GivesOwn, IsNamed, GivesReplies, RawEntry, calls_of, entries_of, entry_by, raw_replies}
use Rattle.wire_model.proofs.Lists.{Each}
use Rattle.wire_model.proofs.Routes.{Tag}
use Rattle.wire_model.proofs.ConnCalls.{calls_before}
use Rattle.wire_model.proofs.RawEntries.{next_by}

-- the held bytes are no whole message
abbrev pub IsLeft : ℕ → List ℕ → Type 0
IsLeft limit held = IsOpen limit held ⊎ ((f : MsgFault) × IsBad limit held f)

-- The call of the tag is one of the connection's, and the message with its index among them has the id of the tag.
pub record StandsFor (c : ℕ) (calls : List Call) (messages : List Message) (t : Tag) : Type 0 where
  pub x : Call
  pub there : CallIs calls t.call x
  pub here : x.connection ≡ c
  pub message : Message
  pub at : slice_get messages (calls_before c calls t.call) ≡ Some message
  pub id : message.id ≡ t.id

-- What its server took are messages and what it holds, and the calls of the connection are the messages. Those that wait are
-- among them while the server lives. What it gave and is to send are the replies of its entries.
pub record RawFits {H : Type 0} (limit c : ℕ) (k : Conn) (m : Machine H) (waiting : List Tag) (taken given : List ℕ) : Type 0 where
  pub messages : List Message
  pub bytes : List ℕ
  pub spelled : AreSpelled limit messages bytes
  pub joined : taken ≡ bytes ++ k.server.held
  pub left : IsLeft limit k.server.held
  pub strangers : AreMessages c messages m.calls
  pub waits : m.server_lives c ≡ true → Each (StandsFor c m.calls messages) waiting
  pub raw_entries : List RawEntry
  pub entries : entries_of c m.log ≡ map (entry_by c) raw_entries
  pub are : (i : ℕ) (t : RawEntry) → slice_get raw_entries i ≡ Some t → slice_get messages t.index ≡ Some t.message
  pub named : (i : ℕ) (t : RawEntry) → slice_get raw_entries i ≡ Some t → IsNamed c m.calls m.log i t
  pub once : (i j : ℕ) (t u : RawEntry) → slice_get raw_entries i ≡ Some t → slice_get raw_entries j ≡ Some u → t.index ≡ u.index → i ≡ j
  pub right : (i : ℕ) (t : RawEntry) → slice_get raw_entries i ≡ Some t → GivesReplies k.server.state (length raw_entries) i t
  pub given_is : given ++ k.server.output ≡ written (raw_replies 1 raw_entries)
  pub next : k.server.next_id ≡ next_by 1 raw_entries

-- ---- what it gives

-- bad bytes begin with no message
pub bad_is_not_whole : (limit : ℕ) (bytes rest : List ℕ) (m : Message) (f : MsgFault) → IsBad limit bytes f → IsWhole limit bytes m rest → ⊥
bad_is_not_whole limit bytes rest m f (bad_header room h) w =
    let least = least_length m w.front w.spelled in
    let same : header_of bytes ≡ header_of w.front = ap header_of w.parts ∙ header_front w.front rest (omega (arith, least)) in
    bad_not_whole limit w.front [] m f (msg_are_bytes m w.front w.spelled) (bad_header (omega (arith, least)) (subst (λ (x : MsgHeader). HeaderFault limit x f) same h))
    (record { front = w.front; parts = sym (append-nil w.front); spelled = w.spelled; within = w.within })
bad_is_not_whole limit bytes rest m f (bad_message room good le fault) w =
    let h = whole_read limit bytes rest m w in
    let same : take (number_at bytes 0) bytes ≡ w.front = ap (λ (n : ℕ). take n bytes) h.announced ∙ ap (take (length w.front)) w.parts ∙ take_at w.front rest (length w.front) refl in
    no_msg_fault limit m w.front f (msg_are_bytes m w.front w.spelled) w.spelled w.within (subst (λ (x : List ℕ). FaultMsg x limit f) same fault)

left_not_whole : (limit : ℕ) (held after : List ℕ) (m : Message) → IsLeft limit held → IsWhole limit held m after → ⊥
left_not_whole limit held after m (inl o) w = open_not_whole limit held after m o w
left_not_whole limit held after m (inr b) w = bad_is_not_whole limit held after m b.0 b.1 w

module _ {H : Type 0} (limit c : ℕ) (k : Conn) (m : Machine H) (waiting : List Tag) (taken given : List ℕ) (r : RawFits limit c k m waiting taken given) where
  pub raw_split : Split limit taken r.messages k.server.held
  raw_split = record { joined = r.bytes; spelled = r.spelled; parts = r.joined; ends = λ n after w. left_not_whole limit k.server.held after n r.left w }

  pub raw_apart : ((i : ℕ) (x : Call) → slice_get (calls_of c m.calls) i ≡ Some x → x.state ≡ Foreign) → GivesOwn limit c taken (given ++ k.server.output) k.server.state m.calls m.log
  raw_apart foreign = record {
    own = record {
      messages = r.messages;
      rest = k.server.held;
      split = raw_split;
      strangers = r.strangers;
      foreign = foreign;
      raw_entries = r.raw_entries;
      entries = r.entries;
      are = r.are;
      named = r.named;
      once = r.once;
    };
    right = r.right;
    given_is = r.given_is;
  }

-- ---- the beginning

pub raw_opened : {H : Type 0} (limit c : ℕ) (k : Conn) (m : Machine H) → calls_of c m.calls ≡ [] → entries_of c m.log ≡ [] → k.server.held ≡ [] → k.server.output ≡ [] → k.server.next_id ≡ 1 → RawFits limit c k m [] [] []
raw_opened limit c k m calls entries held output next = record {
  messages = [];
  bytes = [];
  spelled = refl;
  joined = sym held;
  left = inl (subst (IsOpen limit) (sym held) (in_header (omega arith)));
  strangers = ap (map (λ (x : Call). x.asked)) calls;
  waits = λ lives. tt;
  raw_entries = [];
  entries = entries;
  are = λ i t g. absurd (none-some t g);
  named = λ i t g. absurd (none-some t g);
  once = λ i j t u g h e. absurd (none-some t g);
  right = λ i t g. absurd (none-some t g);
  given_is = output;
  next = next;
}
