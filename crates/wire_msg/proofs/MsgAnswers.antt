-- A message as its bytes are read; a message or a fault, one of them at most.
use Rattle.std.proofs.Common.{◌≡◌, ℕ, ℤ, pos, ◌+◌, ◌^◌, ◌<◌, ◌≤◌, inl, inr, List, [], ◌∷◌, ◌++◌, length, take, drop, Ok, Some, None, refl, sym, ap, subst, ◌∙◌, append_assoc, arith, length-append, FitsSigned}
use Rattle.std.specs.Int.{w32, from_le_bytes, cast_signed, cast_unsigned}
use Rattle.std.proofs.Math.Facts.{Fits-of_z}
use Rattle.std.proofs.lemmas.Int.{to_z-of_z}
use Rattle.std.proofs.lemmas.List.{take_at, drop_at, drop-drop}
use Rattle.std.proofs.lemmas.Nat.{from_le_bytes-to_le_bytes_4}
use Rattle.bson_elem.specs.Spelling.{IsBytes, little}
use Rattle.bson_elem.proofs.Lemmas.{IsBytes-drop}
use Rattle.wire_msg.specs.declared.header.MsgHeader.{MsgHeader}
use Rattle.wire_msg.specs.declared.fault.MsgFault.{MsgFault}
use Rattle.wire_msg.specs.Header.{number_at, header_of, IsGoodHeader, HeaderFault, of_length, of_opcode}
use Rattle.wire_msg.specs.Messages.{Sequence, Message, AreSequences, AreApart}
use Rattle.wire_msg.specs.Spelling.{signed, header_bytes, message_bytes, sections_bytes, SpellsMsg}
use Rattle.wire_msg.specs.Faults.{flags_fault, IsFramedMsg, FrameFault, no_header, of_header, unlike, PartsFault, no_flags, of_flags, of_sections, FaultMsg, of_frame, of_parts}
use Rattle.wire_msg.proofs.FlagLaws.{flags_are_sound}
use Rattle.wire_msg.proofs.NameLaws.{apart_names}
use Rattle.wire_msg.proofs.SectionVerdicts.{Verdict}
use Rattle.wire_msg.proofs.SectionAnswers.{verdict_spelled, says, one_says, no_says}

-- ---- five numbers of four bytes, and what follows them

pub record FiveParts (bytes a b d e f x : List ℕ) : Type 0 where
  pub size : length bytes ≡ 20 + length x
  pub first : take 4 (drop 0 bytes) ≡ a
  pub second : take 4 (drop 4 bytes) ≡ b
  pub third : take 4 (drop 8 bytes) ≡ d
  pub fourth : take 4 (drop 12 bytes) ≡ e
  pub fifth : take 4 (drop 16 bytes) ≡ f
  pub after : drop 20 bytes ≡ x

regroup : (a b d e y : List ℕ) → (a ++ (b ++ (d ++ e))) ++ y ≡ a ++ (b ++ (d ++ (e ++ y)))
regroup a b d e y = append_assoc a (b ++ (d ++ e)) y ∙ ap (λ (z : List ℕ). a ++ z) (append_assoc b (d ++ e) y ∙ ap (λ (z : List ℕ). b ++ z) (append_assoc d e y))

-- past four bytes more
pub past : (bytes front rest : List ℕ) (at : ℕ) → length front ≡ 4 → drop at bytes ≡ front ++ rest → drop (at + 4) bytes ≡ rest
past bytes front rest at four is = sym (drop-drop 4 at bytes) ∙ ap (drop 4) is ∙ drop_at front rest 4 four

pub here : (bytes front rest : List ℕ) (at : ℕ) → length front ≡ 4 → drop at bytes ≡ front ++ rest → take 4 (drop at bytes) ≡ front
here bytes front rest at four is = ap (take 4) is ∙ take_at front rest 4 four

pub five_parts : (bytes a b d e f x : List ℕ) → bytes ≡ (a ++ (b ++ (d ++ e))) ++ (f ++ x) → length a ≡ 4 → length b ≡ 4 → length d ≡ 4 → length e ≡ 4 → length f ≡ 4 → FiveParts bytes a b d e f x
five_parts bytes a b d e f x is la lb ld le lf =
    let p0 : drop 0 bytes ≡ a ++ (b ++ (d ++ (e ++ (f ++ x)))) = is ∙ regroup a b d e (f ++ x) in
    let p4 : drop 4 bytes ≡ b ++ (d ++ (e ++ (f ++ x))) = past bytes a (b ++ (d ++ (e ++ (f ++ x)))) 0 la p0 in
    let p8 : drop 8 bytes ≡ d ++ (e ++ (f ++ x)) = past bytes b (d ++ (e ++ (f ++ x))) 4 lb p4 in
    let p12 : drop 12 bytes ≡ e ++ (f ++ x) = past bytes d (e ++ (f ++ x)) 8 ld p8 in
    let p16 : drop 16 bytes ≡ f ++ x = past bytes e (f ++ x) 12 le p12 in
    record {
      size = omega (arith, ap length p0, length-append a (b ++ (d ++ (e ++ (f ++ x)))), length-append b (d ++ (e ++ (f ++ x))), length-append d (e ++ (f ++ x)), length-append e (f ++ x), length-append f x, la, lb, ld, le, lf);
      first = here bytes a (b ++ (d ++ (e ++ (f ++ x)))) 0 la p0;
      second = here bytes b (d ++ (e ++ (f ++ x))) 4 lb p4;
      third = here bytes d (e ++ (f ++ x)) 8 ld p8;
      fourth = here bytes e (f ++ x) 12 le p12;
      fifth = here bytes f x 16 lf p16;
      after = past bytes f x 16 lf p16;
    }

pub number_is : (bytes : List ℕ) (at n : ℕ) → n < 2 ^ 32 → take 4 (drop at bytes) ≡ little n → from_le_bytes w32 (take 4 (drop at bytes)) ≡ n
number_is bytes at n lt e = ap (from_le_bytes w32) e ∙ from_le_bytes-to_le_bytes_4 n lt

unsigned_fits : (z : ℤ) → FitsSigned w32 z → cast_unsigned w32 z < 2 ^ 32
unsigned_fits z f = (Fits-of_z {w = w32} {z = z} f).fits

pub signed_is : (bytes : List ℕ) (at : ℕ) (z : ℤ) → FitsSigned w32 z → take 4 (drop at bytes) ≡ signed z → cast_signed w32 (from_le_bytes w32 (take 4 (drop at bytes))) ≡ z
signed_is bytes at z f e = ap (cast_signed w32) (number_is bytes at (cast_unsigned w32 z) (unsigned_fits z f) e) ∙ to_z-of_z w32 z f

-- ---- a message as its bytes are read

pub record MsgRead (m : Message) (bytes : List ℕ) (s : SpellsMsg m bytes) : Type 0 where
  pub long : 20 ≤ length bytes
  pub len : number_at bytes 0 ≡ length bytes
  pub id : cast_signed w32 (number_at bytes 4) ≡ m.id
  pub response_to : cast_signed w32 (number_at bytes 8) ≡ m.response_to
  pub opcode : cast_signed w32 (number_at bytes 12) ≡ pos 2013
  pub word : number_at bytes 16 ≡ s.word
  pub sections : drop 20 bytes ≡ sections_bytes s.before m.content.body s.after

pub msg_read : (m : Message) (bytes : List ℕ) (s : SpellsMsg m bytes) → MsgRead m bytes s
unfolding header_bytes message_bytes
msg_read m bytes s =
    let x : List ℕ = sections_bytes s.before m.content.body s.after in
    let p = five_parts bytes (little (length x + 20)) (signed m.id) (signed m.response_to) (little 2013) (little s.word) x s.parts refl refl refl refl refl in
    record {
      long = omega (arith, p.size);
      len = number_is bytes 0 (length x + 20) (omega (arith, p.size, s.short)) p.first ∙ (let e : length x + 20 ≡ length bytes = omega (arith, p.size) in e);
      id = signed_is bytes 4 m.id s.id p.second;
      response_to = signed_is bytes 8 m.response_to s.response_to p.third;
      opcode = ap (cast_signed w32) (number_is bytes 12 2013 (omega arith) p.fourth);
      word = number_is bytes 16 s.word s.flags.four_bytes p.fifth;
      sections = p.after;
    }

pub AreSequences-split : (qs rs : List Sequence) → AreSequences (qs ++ rs) → AreSequences qs × AreSequences rs
AreSequences-split [] rs a = (tt, a)
AreSequences-split (q ∷ qs) rs a = let s = AreSequences-split qs rs a.1 in ((a.0, s.0), s.1)

pub msg_verdict : (m : Message) (bytes : List ℕ) (s : SpellsMsg m bytes) → Verdict (drop 20 bytes) (Ok (s.before, m.content.body, s.after))
msg_verdict m bytes s =
    let fits = AreSequences-split s.before s.after (subst AreSequences s.in_order s.content.sequences) in
    verdict_spelled (drop 20 bytes) s.before m.content.body s.after (msg_read m bytes s).sections fits.0 s.content.body fits.1

-- ---- no fault of a message

no_frame_fault : (limit : ℕ) (m : Message) (bytes : List ℕ) (f : MsgFault) (s : SpellsMsg m bytes) → length bytes ≤ limit → FrameFault bytes limit f → ⊥
no_frame_fault limit m bytes f s le (no_header lt e) = let r = msg_read m bytes s in omega (arith, lt, r.long)
no_frame_fault limit m bytes f s le (of_header room (of_length (inl lt) e)) = let r = msg_read m bytes s in omega (arith, lt, r.long, r.len)
no_frame_fault limit m bytes f s le (of_header room (of_length (inr lt) e)) = let r = msg_read m bytes s in omega (arith, lt, le, r.len)
no_frame_fault limit m bytes f s le (of_header room (of_opcode least most ne e)) = ne (msg_read m bytes s).opcode
no_frame_fault limit m bytes f s le (unlike room good ne e) = ne (msg_read m bytes s).len

no_parts_fault : (m : Message) (bytes : List ℕ) (f : MsgFault) (s : SpellsMsg m bytes) → IsBytes bytes → PartsFault bytes f → ⊥
no_parts_fault m bytes f s fits (no_flags lt e) = let r = msg_read m bytes s in omega (arith, lt, r.long)
no_parts_fault m bytes f s fits (of_flags room e) =
    let sound : flags_fault (number_at bytes 16) ≡ None = ap flags_fault (msg_read m bytes s).word ∙ flags_are_sound s.word m.flags s.flags in
    let same : None ≡ Some f = sym sound ∙ e in
    absurd cc
no_parts_fault m bytes f s fits (of_sections room flags fault) =
    no_says (drop 20 bytes) f s.before m.content.body s.after (IsBytes-drop 20 bytes fits) (msg_verdict m bytes s)
    (apart_names s.before m.content.body s.after s.content.unique (subst (AreApart m.content.body) s.in_order s.content.apart)) (says (drop 20 bytes) f fault)

pub no_msg_fault : (limit : ℕ) (m : Message) (bytes : List ℕ) (f : MsgFault) → IsBytes bytes → SpellsMsg m bytes → length bytes ≤ limit → FaultMsg bytes limit f → ⊥
no_msg_fault limit m bytes f fits s le (of_frame fault) = no_frame_fault limit m bytes f s le fault
no_msg_fault limit m bytes f fits s le (of_parts framed fault) = no_parts_fault m bytes f s fits fault

-- ---- one fault

pub one_header_fault : (limit : ℕ) (h : MsgHeader) (f g : MsgFault) → HeaderFault limit h f → HeaderFault limit h g → f ≡ g
one_header_fault limit h f g (of_length a e) (of_length b e') = e ∙ sym e'
one_header_fault limit h f g (of_length (inl lt) e) (of_opcode least most ne e') = absurd (omega (arith, lt, least))
one_header_fault limit h f g (of_length (inr lt) e) (of_opcode least most ne e') = absurd (omega (arith, lt, most))
one_header_fault limit h f g (of_opcode least most ne e) (of_length (inl lt) e') = absurd (omega (arith, lt, least))
one_header_fault limit h f g (of_opcode least most ne e) (of_length (inr lt) e') = absurd (omega (arith, lt, most))
one_header_fault limit h f g (of_opcode least most ne e) (of_opcode least' most' ne' e') = e ∙ sym e'

pub good_header : (limit : ℕ) (h : MsgHeader) (f : MsgFault) → IsGoodHeader limit h → HeaderFault limit h f → ⊥
good_header limit h f good (of_length (inl lt) e) = omega (arith, lt, good.least)
good_header limit h f good (of_length (inr lt) e) = omega (arith, lt, good.most)
good_header limit h f good (of_opcode least most ne e) = ne good.opcode

one_frame_fault : (limit : ℕ) (bytes : List ℕ) (f g : MsgFault) → FrameFault bytes limit f → FrameFault bytes limit g → f ≡ g
one_frame_fault limit bytes f g (no_header lt e) (no_header lt' e') = e ∙ sym e'
one_frame_fault limit bytes f g (no_header lt e) (of_header room h) = absurd (omega (arith, lt, room))
one_frame_fault limit bytes f g (no_header lt e) (unlike room good ne e') = absurd (omega (arith, lt, room))
one_frame_fault limit bytes f g (of_header room h) (no_header lt e) = absurd (omega (arith, lt, room))
one_frame_fault limit bytes f g (of_header room h) (of_header room' h') = one_header_fault limit (header_of bytes) f g h h'
one_frame_fault limit bytes f g (of_header room h) (unlike room' good ne e) = absurd (good_header limit (header_of bytes) f good h)
one_frame_fault limit bytes f g (unlike room good ne e) (no_header lt e') = absurd (omega (arith, lt, room))
one_frame_fault limit bytes f g (unlike room good ne e) (of_header room' h) = absurd (good_header limit (header_of bytes) g good h)
one_frame_fault limit bytes f g (unlike room good ne e) (unlike room' good' ne' e') = e ∙ sym e'

framed_no_fault : (limit : ℕ) (bytes : List ℕ) (f : MsgFault) → IsFramedMsg limit bytes → FrameFault bytes limit f → ⊥
framed_no_fault limit bytes f framed (no_header lt e) = omega (arith, lt, framed.header)
framed_no_fault limit bytes f framed (of_header room h) = good_header limit (header_of bytes) f framed.good h
framed_no_fault limit bytes f framed (unlike room good ne e) = ne framed.whole

one_parts_fault : (bytes : List ℕ) (f g : MsgFault) → IsBytes bytes → PartsFault bytes f → PartsFault bytes g → f ≡ g
one_parts_fault bytes f g fits (no_flags lt e) (no_flags lt' e') = e ∙ sym e'
one_parts_fault bytes f g fits (no_flags lt e) (of_flags room flags) = absurd (omega (arith, lt, room))
one_parts_fault bytes f g fits (no_flags lt e) (of_sections room flags fault) = absurd (omega (arith, lt, room))
one_parts_fault bytes f g fits (of_flags room flags) (no_flags lt e) = absurd (omega (arith, lt, room))
one_parts_fault bytes f g fits (of_flags room flags) (of_flags room' flags') = let same : Some f ≡ Some g = sym flags ∙ flags' in cc
one_parts_fault bytes f g fits (of_flags room flags) (of_sections room' flags' fault) = absurd (let same : Some f ≡ None = sym flags ∙ flags' in cc)
one_parts_fault bytes f g fits (of_sections room flags fault) (no_flags lt e) = absurd (omega (arith, lt, room))
one_parts_fault bytes f g fits (of_sections room flags fault) (of_flags room' flags') = absurd (let same : Some g ≡ None = sym flags' ∙ flags in cc)
one_parts_fault bytes f g fits (of_sections room flags fault) (of_sections room' flags' fault') = one_says (drop 20 bytes) f g (IsBytes-drop 20 bytes fits) (says (drop 20 bytes) f fault) (says (drop 20 bytes) g fault')

pub one_msg_fault : (limit : ℕ) (bytes : List ℕ) (f g : MsgFault) → IsBytes bytes → FaultMsg bytes limit f → FaultMsg bytes limit g → f ≡ g
one_msg_fault limit bytes f g fits (of_frame a) (of_frame b) = one_frame_fault limit bytes f g a b
one_msg_fault limit bytes f g fits (of_frame a) (of_parts framed b) = absurd (framed_no_fault limit bytes f framed a)
one_msg_fault limit bytes f g fits (of_parts framed a) (of_frame b) = absurd (framed_no_fault limit bytes g framed b)
one_msg_fault limit bytes f g fits (of_parts framed a) (of_parts framed' b) = one_parts_fault bytes f g fits a b

pub good_of_msg : (limit : ℕ) (m : Message) (bytes : List ℕ) → SpellsMsg m bytes → length bytes ≤ limit → IsGoodHeader limit (header_of bytes)
good_of_msg limit m bytes s le =
    let r = msg_read m bytes s in
    record { least = omega (arith, r.long, r.len); most = omega (arith, le, r.len); opcode = r.opcode }
