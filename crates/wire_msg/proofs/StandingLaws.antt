-- How bytes stand that come one after another.
use Rattle.std.proofs.Common.{◌≡◌, ◌≢◌, ℕ, ℤ, ◌+◌, ◌<◌, ◌≤◌, inl, inr, List, [], ◌++◌, length, take, drop, Ok, refl, sym, ap, subst, ◌∙◌, arith, length-append, length-drop}
use Rattle.std.specs.Int.{w32, from_le_bytes, cast_signed}
use Rattle.std.proofs.lemmas.Bool.{cases_lt}
use Rattle.std.proofs.lemmas.List.{take_at, drop_at, take-append-le, drop-append-le, nil_from_length}
use Rattle.bson_elem.specs.Trees.{Tree}
use Rattle.bson_elem.specs.Spelling.{IsBytes, elements}
use Rattle.bson_elem.proofs.Lemmas.{IsBytes-drop, IsBytes-take, length-document, ok_is}
use Rattle.wire_msg.specs.declared.header.MsgHeader.{MsgHeader}
use Rattle.wire_msg.specs.declared.fault.MsgFault.{MsgFault}
use Rattle.wire_msg.specs.declared.flags.MsgFlags.{MsgFlags}
use Rattle.wire_msg.specs.Header.{number_at, header_of, IsGoodHeader, HeaderFault}
use Rattle.wire_msg.specs.Messages.{Sequence, Message}
use Rattle.wire_msg.specs.Spelling.{body_section, sequences_bytes, FlagsAre, SpellsMsg}
use Rattle.wire_msg.specs.Faults.{FaultMsg}
use Rattle.wire_msg.specs.Standing.{IsOpen, in_header, in_message, IsWhole, IsBad, bad_header, bad_message}
use Rattle.wire_msg.proofs.FlagLaws.{same_flags}
use Rattle.wire_msg.proofs.SectionLaws.{length-body}
use Rattle.wire_msg.proofs.SectionVerdicts.{Parts, one_verdict}
use Rattle.wire_msg.proofs.MsgAnswers.{msg_read, msg_verdict, no_msg_fault, one_msg_fault, good_header, one_header_fault, good_of_msg}

-- ---- one message

abbrev msg : ℤ → ℤ → MsgFlags → Tree → List Sequence → Message
msg id to flags body sequences = record { id = id; response_to = to; flags = flags; content = record { body = body; sequences = sequences } }

same_msg : (id id' to to' : ℤ) (flags flags' : MsgFlags) (body body' : Tree) (qs qs' : List Sequence) → id ≡ id' → to ≡ to' → flags ≡ flags' → body ≡ body' → qs ≡ qs' → msg id to flags body qs ≡ msg id' to' flags' body' qs'
same_msg id id' to to' flags flags' body body' qs qs' a b d e f = rw (a, b, d, e, f) refl

abbrev joined : Parts → List Sequence
joined p = p.0 ++ p.2

pub one_message : (m n : Message) (bytes : List ℕ) → IsBytes bytes → SpellsMsg m bytes → SpellsMsg n bytes → m ≡ n
one_message m n bytes fits s t =
    let a = msg_read m bytes s in
    let b = msg_read n bytes t in
    let flags = same_flags s.word m.flags n.flags s.flags (subst (λ (w : ℕ). FlagsAre w n.flags) (sym b.word ∙ a.word) t.flags) in
    let parts = ok_is {E = MsgFault} (s.before, m.content.body, s.after) (t.before, n.content.body, t.after) (one_verdict (drop 20 bytes) (Ok (s.before, m.content.body, s.after)) (Ok (t.before, n.content.body, t.after)) (IsBytes-drop 20 bytes fits) (msg_verdict m bytes s) (msg_verdict n bytes t)) in
    let body : m.content.body ≡ n.content.body = ap (λ (p : Parts). p.1) parts in
    let sequences : m.content.sequences ≡ n.content.sequences = s.in_order ∙ ap joined parts ∙ sym t.in_order in
    same_msg m.id n.id m.response_to n.response_to m.flags n.flags m.content.body n.content.body m.content.sequences n.content.sequences (sym a.id ∙ b.id) (sym a.response_to ∙ b.response_to) flags body sequences

-- ---- a message in front

-- the numbers of a header are in the bytes that begin with it
number_front : (a rest : List ℕ) (at : ℕ) → at + 4 ≤ length a → from_le_bytes w32 (take 4 (drop at (a ++ rest))) ≡ from_le_bytes w32 (take 4 (drop at a))
number_front a rest at room =
    ap (λ (x : List ℕ). from_le_bytes w32 (take 4 x)) (drop-append-le at a rest (omega (arith, room))) ∙ ap (from_le_bytes w32) (take-append-le 4 (drop at a) rest (omega (arith, room, length-drop at a)))

abbrev header : ℕ → ℕ → ℕ → ℕ → MsgHeader
header n id to opcode = record { length = n; id = cast_signed w32 id; response_to = cast_signed w32 to; opcode = cast_signed w32 opcode }

same_header : (n n' id id' to to' opcode opcode' : ℕ) → n ≡ n' → id ≡ id' → to ≡ to' → opcode ≡ opcode' → header n id to opcode ≡ header n' id' to' opcode'
same_header n n' id id' to to' opcode opcode' a b d e = rw (a, b, d, e) refl

pub header_front : (a rest : List ℕ) → 16 ≤ length a → header_of (a ++ rest) ≡ header_of a
header_front a rest room = same_header _ _ _ _ _ _ _ _ (number_front a rest 0 (omega (arith, room))) (number_front a rest 4 (omega (arith, room))) (number_front a rest 8 (omega (arith, room))) (number_front a rest 12 (omega (arith, room)))

-- the announced length of bytes that begin with a message is the message's
pub announced : (m : Message) (a rest : List ℕ) → SpellsMsg m a → number_at (a ++ rest) 0 ≡ length a
announced m a rest s = let r = msg_read m a s in number_front a rest 0 (omega (arith, r.long)) ∙ r.len

pub one_front : (m n : Message) (a b rest after : List ℕ) → IsBytes a → SpellsMsg m a → SpellsMsg n b → a ++ rest ≡ b ++ after → (m ≡ n) × (a ≡ b) × (rest ≡ after)
one_front m n a b rest after fits s t is =
    let size : length a ≡ length b = sym (announced m a rest s) ∙ ap (λ (x : List ℕ). number_at x 0) is ∙ announced n b after t in
    let same : a ≡ b = sym (take_at a rest (length a) refl) ∙ ap (take (length a)) is ∙ take_at b after (length a) (sym size) in
    (one_message m n a fits s (subst (SpellsMsg n) (sym same) t), same, sym (drop_at a rest (length a) refl) ∙ ap (drop (length a)) is ∙ drop_at b after (length a) (sym size))

pub no_other : (m n : Message) (a rest : List ℕ) → SpellsMsg m a → SpellsMsg n (a ++ rest) → rest ≡ []
no_other m n a rest s t =
    let size : length a ≡ length (a ++ rest) = sym (announced m a rest s) ∙ (msg_read n (a ++ rest) t).len in
    nil_from_length rest (omega (arith, size, length-append a rest))

-- ---- open, bad and whole

-- a message has a kind byte and a document of five bytes at least behind its flags
pub least_length : (m : Message) (bytes : List ℕ) → SpellsMsg m bytes → 26 ≤ length bytes
least_length m bytes s =
    let r = msg_read m bytes s in
    let x : List ℕ = sequences_bytes s.after in
    omega (arith, ap length r.sections, length-drop 20 bytes, length-append (sequences_bytes s.before) (body_section m.content.body ++ x), length-append (body_section m.content.body) x, length-body m.content.body, length-document (elements m.content.body))

-- a whole message has a good header that announces its length
pub record WholeRead (limit : ℕ) (bytes rest : List ℕ) (m : Message) (w : IsWhole limit bytes m rest) : Type 0 where
  pub good : IsGoodHeader limit (header_of bytes)
  pub announced : number_at bytes 0 ≡ length w.front
  pub least : 26 ≤ length w.front
  pub sum : length bytes ≡ length w.front + length rest

pub whole_read : (limit : ℕ) (bytes rest : List ℕ) (m : Message) → (w : IsWhole limit bytes m rest) → WholeRead limit bytes rest m w
whole_read limit bytes rest m w =
    let least = least_length m w.front w.spelled in
    let good : IsGoodHeader limit (header_of w.front) = good_of_msg limit m w.front w.spelled w.within in
    record {
      good = subst (IsGoodHeader limit) (sym (ap header_of w.parts ∙ header_front w.front rest (omega (arith, least)))) good;
      announced = ap (λ (x : List ℕ). number_at x 0) w.parts ∙ announced m w.front rest w.spelled;
      least = least;
      sum = ap length w.parts ∙ length-append w.front rest;
    }

pub open_not_whole : (limit : ℕ) (bytes rest : List ℕ) (m : Message) → IsOpen limit bytes → IsWhole limit bytes m rest → ⊥
open_not_whole limit bytes rest m (in_header lt) w = let h = whole_read limit bytes rest m w in omega (arith, lt, h.least, h.sum)
open_not_whole limit bytes rest m (in_message room good lt) w = let h = whole_read limit bytes rest m w in omega (arith, lt, h.announced, h.sum)

pub open_not_bad : (limit : ℕ) (bytes : List ℕ) (f : MsgFault) → IsOpen limit bytes → IsBad limit bytes f → ⊥
open_not_bad limit bytes f (in_header lt) (bad_header room h) = omega (arith, lt, room)
open_not_bad limit bytes f (in_header lt) (bad_message room good le fault) = omega (arith, lt, room)
open_not_bad limit bytes f (in_message room good lt) (bad_header room' h) = good_header limit (header_of bytes) f good h
open_not_bad limit bytes f (in_message room good lt) (bad_message room' good' le fault) = omega (arith, lt, le)

pub bad_not_whole : (limit : ℕ) (bytes rest : List ℕ) (m : Message) (f : MsgFault) → IsBytes bytes → IsBad limit bytes f → IsWhole limit bytes m rest → ⊥
bad_not_whole limit bytes rest m f fits (bad_header room h) w = good_header limit (header_of bytes) f (whole_read limit bytes rest m w).good h
bad_not_whole limit bytes rest m f fits (bad_message room good le fault) w =
    let h = whole_read limit bytes rest m w in
    let same : take (number_at bytes 0) bytes ≡ w.front = ap (λ (n : ℕ). take n bytes) h.announced ∙ ap (take (length w.front)) w.parts ∙ take_at w.front rest (length w.front) refl in
    no_msg_fault limit m w.front f (subst IsBytes same (IsBytes-take (number_at bytes 0) bytes fits)) w.spelled w.within (subst (λ (x : List ℕ). FaultMsg x limit f) same fault)

pub bad_once : (limit : ℕ) (bytes : List ℕ) (f g : MsgFault) → IsBytes bytes → IsBad limit bytes f → IsBad limit bytes g → f ≡ g
bad_once limit bytes f g fits (bad_header room h) (bad_header room' h') = one_header_fault limit (header_of bytes) f g h h'
bad_once limit bytes f g fits (bad_header room h) (bad_message room' good le fault) = absurd (good_header limit (header_of bytes) f good h)
bad_once limit bytes f g fits (bad_message room good le fault) (bad_header room' h) = absurd (good_header limit (header_of bytes) g good h)
bad_once limit bytes f g fits (bad_message room good le fault) (bad_message room' good' le' fault') = one_msg_fault limit (take (number_at bytes 0) bytes) f g (IsBytes-take (number_at bytes 0) bytes fits) fault fault'

pub bad_early : (limit : ℕ) (front more : List ℕ) (f : MsgFault) → length front ≡ 16 → HeaderFault limit (header_of front) f → IsBad limit (front ++ more) f
bad_early limit front more f size h = bad_header (omega (arith, size, length-append front more)) (subst (λ (x : MsgHeader). HeaderFault limit x f) (sym (header_front front more (omega (arith, size)))) h)

-- ---- more bytes and fewer

-- more bytes leave bad bytes bad
pub bad_longer : (limit : ℕ) (bytes more : List ℕ) (f : MsgFault) → IsBad limit bytes f → IsBad limit (bytes ++ more) f
bad_longer limit bytes more f (bad_header room h) =
    bad_header (omega (arith, room, length-append bytes more)) (subst (λ (x : MsgHeader). HeaderFault limit x f) (sym (header_front bytes more room)) h)
bad_longer limit bytes more f (bad_message room good le fault) =
    let same = header_front bytes more room in
    let size : number_at (bytes ++ more) 0 ≡ number_at bytes 0 = ap (λ (h : MsgHeader). h.length) same in
    let cut : take (number_at (bytes ++ more) 0) (bytes ++ more) ≡ take (number_at bytes 0) bytes = ap (λ (n : ℕ). take n (bytes ++ more)) size ∙ take-append-le (number_at bytes 0) bytes more le in
    bad_message (omega (arith, room, length-append bytes more)) (subst (IsGoodHeader limit) (sym same) good) (omega (arith, size, le, length-append bytes more)) (subst (λ (x : List ℕ). FaultMsg x limit f) (sym cut) fault)

-- a beginning that a header of the whole decides
begins_open : (limit : ℕ) (front rest : List ℕ) → IsGoodHeader limit (header_of (front ++ rest)) → length front < number_at (front ++ rest) 0 → IsOpen limit front
begins_open limit front rest good lt = elim (cases_lt (length front) 16) [
  | inl short ↦ in_header short
  | inr room ↦
      let same = header_front front rest room in
      in_message room (subst (IsGoodHeader limit) same good) (omega (arith, lt, ap (λ (h : MsgHeader). h.length) same))
]

-- a beginning of open bytes is open
pub open_shorter : (limit : ℕ) (front rest : List ℕ) → IsOpen limit (front ++ rest) → IsOpen limit front
open_shorter limit front rest (in_header lt) = in_header (omega (arith, lt, length-append front rest))
open_shorter limit front rest (in_message room good lt) = begins_open limit front rest good (omega (arith, lt, length-append front rest))

-- a proper beginning of a message within the limit is open
pub open_inside : (limit : ℕ) (m : Message) (front rest : List ℕ) → SpellsMsg m (front ++ rest) → length (front ++ rest) ≤ limit → rest ≢ [] → IsOpen limit front
open_inside limit m front rest s le some =
    let long : length front < length (front ++ rest) = elim (cases_lt (length front) (length (front ++ rest))) [
      | inl lt ↦ lt
      | inr none ↦ absurd (some (nil_from_length rest (omega (arith, none, length-append front rest))))
    ] in
    begins_open limit front rest (good_of_msg limit m (front ++ rest) s le) (omega (arith, long, (msg_read m (front ++ rest) s).len))

pub no_message : (m : Message) → SpellsMsg m [] → ⊥
no_message m s = let r = msg_read m [] s in omega (arith, r.long)
