-- The offset of a fault is within the bytes.
use Rattle.std.proofs.Common.{◌≡◌, ℕ, ◌+◌, ◌-◌, ◌^◌, ◌%◌, ◌≤◌, Bool, true, false, List, [], ◌∷◌, ◌++◌, length, drop, Option, Some, None, refl, ap, subst, arith, length-append, length-take, length-drop}
use Rattle.std.specs.Prelude.{nat_le, if◌then◌else◌, ◌==◌}
use Rattle.std.specs.Option.{option_or}
use Rattle.std.specs.Int.{bit_at}
use Rattle.bson_elem.specs.Trees.{Tree}
use Rattle.bson_elem.specs.Spelling.{IsBytes, cstring}
use Rattle.bson_elem.proofs.Lemmas.{IsBytes-after, IsBytes-drop, IsBytes-take, cstring_takes}
use Rattle.wire_msg.specs.declared.fault.MsgFault.{MsgFault}
use Rattle.wire_msg.specs.declared.fault.MsgCause.{MsgCause}
use Rattle.wire_msg.specs.declared.header.MsgHeader.{MsgHeader}
use Rattle.wire_msg.specs.declared.fault.MsgCause.TheVariants.{Flags, Checksum}
use Rattle.wire_msg.specs.Causes.{msg_fault}
use Rattle.wire_msg.specs.Header.{HeaderFault, of_length, of_opcode, number_at}
use Rattle.bson_raw.specs.Split.{documents_bytes}
use Rattle.wire_msg.specs.Messages.{Sequence}
use Rattle.wire_msg.specs.Spelling.{body_section, sequence_section, sequences_bytes, sections_bytes}
use Rattle.wire_msg.specs.Faults.{DocumentsFault, SequenceFault, of_size, of_identifier, of_documents, sequence_rest, Seen, seen_bytes, SectionFault, two_bodies, of_body, of_sequence, of_kind, first_in_body, identifier_fault, field_fault, names_fault, SectionsFault, at_section, without_body, of_names, flags_fault, FrameFault, no_header, of_header, unlike, PartsFault, no_flags, of_flags, of_sections, FaultMsg, of_frame, of_parts}
use Rattle.bson_raw.specs.Pairs.{first_repeated}
use Rattle.wire_msg.specs.Messages.{is_field}

stands_at : (f : MsgFault) (p : ℕ) (c : MsgCause) → f ≡ msg_fault p c → f.at ≡ p
stands_at f p c is = ap (λ (g : MsgFault). g.at) is

some_at : (f : MsgFault) (p : ℕ) (c : MsgCause) → Some (msg_fault p c) ≡ Some f → f.at ≡ p
some_at f p c is = cc

-- ---- the header

pub header_offset : (limit : ℕ) (header : MsgHeader) (f : MsgFault) → HeaderFault limit header f → f.at ≤ 12
header_offset limit header f (of_length bad is) = omega (arith, stands_at f 0 _ is)
header_offset limit header f (of_opcode least most other is) = omega (arith, stands_at f 12 _ is)

frame_offset : (bytes : List ℕ) (limit : ℕ) (f : MsgFault) → FrameFault bytes limit f → f.at ≤ length bytes
frame_offset bytes limit f (no_header lt is) = omega (arith, stands_at f 0 _ is)
frame_offset bytes limit f (of_header room h) = omega (arith, room, header_offset limit _ f h)
frame_offset bytes limit f (unlike room good other is) = omega (arith, stands_at f 0 _ is)

-- ---- sections

documents_offset : (p : ℕ) (bytes : List ℕ) (f : MsgFault) → DocumentsFault p bytes f → f.at ≤ p + length bytes
documents_offset p bytes f d = omega (arith, stands_at f _ _ d.is, ap length d.parts, length-append (documents_bytes d.documents) (d.first ∷ d.rest))

sequence_offset : (p : ℕ) (bytes : List ℕ) (f : MsgFault) → IsBytes bytes → SequenceFault p bytes f → f.at ≤ p + 1 + length bytes
sequence_offset p bytes f fits (of_size unsized is) = omega (arith, stands_at f p _ is)
sequence_offset p bytes f fits (of_identifier c sized bad is) = omega (arith, stands_at f p _ is)
sequence_offset p bytes f fits (of_documents identifier rest sized read fault) =
    let size : ℕ = number_at bytes 0 in
    let t = cstring_takes (sequence_rest bytes) (identifier, rest) (IsBytes-take (size - 4) (drop 4 bytes) (IsBytes-drop 4 bytes fits)) read in
    omega (arith, documents_offset (p + 6 + length identifier) rest f fault, sized.least, sized.most, ap length t.0.parts, length-append (cstring identifier) rest, length-append identifier (0 ∷ []), length-take (size - 4) (drop 4 bytes), length-drop 4 bytes)

section_offset : (seen : Seen) (p kind : ℕ) (bytes : List ℕ) (f : MsgFault) → IsBytes bytes → SectionFault seen p kind bytes f → f.at ≤ p + 1 + length bytes
section_offset seen p kind bytes f fits (two_bodies second is) = omega (arith, stands_at f p _ is)
section_offset seen p kind bytes f fits (of_body inner first front is) = omega (arith, stands_at f (p + 1) _ is)
section_offset seen p kind bytes f fits (of_sequence one fault) = sequence_offset p bytes f fits fault
section_offset seen p kind bytes f fits (of_kind a b is) = omega (arith, stands_at f p _ is)

-- ---- names

-- the offset of a sequence, or that of one behind it
either_offset : (p : ℕ) (later : Option ℕ) (last at : ℕ) (named : Bool) → p ≤ last → (later ≡ Some at → at ≤ last) → (if named then Some p else later) ≡ Some at → at ≤ last
either_offset p later last at true low behind is = let same : p ≡ at = cc in omega (arith, same, low)
either_offset p later last at false low behind is = behind is

first_offset : (body : Tree) (p : ℕ) (qs : List Sequence) (at : ℕ) → first_in_body body p qs ≡ Some at → at ≤ p + length (sequences_bytes qs)
first_offset body p [] at is = absurd (cc)
first_offset body p (q ∷ qs) at is =
    either_offset p (first_in_body body (p + length (sequence_section q)) qs) (p + length (sequences_bytes (q ∷ qs))) at (is_field q.identifier body) (omega arith)
    (λ e. omega (arith, first_offset body (p + length (sequence_section q)) qs at e, length-append (sequence_section q) (sequences_bytes qs))) is

option_or_offset : (a b : Option ℕ) (last at : ℕ) → ((n : ℕ) → a ≡ Some n → n ≤ last) → ((n : ℕ) → b ≡ Some n → n ≤ last) → option_or a b ≡ Some at → at ≤ last
option_or_offset (Some n) b last at low high is = low at is
option_or_offset None b last at low high is = high at is

identifier_offset : (found : Option ℕ) (last : ℕ) (f : MsgFault) → ((n : ℕ) → found ≡ Some n → n ≤ last) → identifier_fault found ≡ Some f → f.at ≤ last
identifier_offset (Some n) last f within is = omega (arith, within n refl, some_at f n _ is)
identifier_offset None last f within is = absurd (cc)

field_offset : (p last : ℕ) (repeated : Option (List ℕ)) (other : Option MsgFault) (f : MsgFault) → p ≤ last → (other ≡ Some f → f.at ≤ last) → field_fault p repeated other ≡ Some f → f.at ≤ last
field_offset p last (Some name) other f low within is = omega (arith, low, some_at f p _ is)
field_offset p last None other f low within is = within is

names_offset : (before : List Sequence) (body : Tree) (after : List Sequence) (f : MsgFault) → names_fault before body after ≡ Some f → f.at ≤ 20 + length (sections_bytes before body after)
names_offset before body after f is =
    let p : ℕ = 20 + length (sequences_bytes before) in
    let next : ℕ = p + length (body_section body) in
    let last : ℕ = 20 + length (sections_bytes before body after) in
    let size : last ≡ next + length (sequences_bytes after) = omega (arith, length-append (sequences_bytes before) (body_section body ++ sequences_bytes after), length-append (body_section body) (sequences_bytes after)) in
    field_offset p last (first_repeated [] body) _ f (omega (arith, size))
    (identifier_offset (option_or (first_in_body body 20 before) (first_in_body body next after)) last f
    (λ n found. option_or_offset (first_in_body body 20 before) (first_in_body body next after) last n
    (λ k e. omega (arith, first_offset body 20 before k e, size))
    (λ k e. omega (arith, first_offset body next after k e, size)) found)) is

-- ---- messages

sections_offset : (bytes : List ℕ) (f : MsgFault) → IsBytes bytes → SectionsFault bytes f → f.at ≤ 20 + length bytes
sections_offset bytes f fits (at_section seen kind rest is fit fault) =
    let behind : IsBytes (kind ∷ rest) = IsBytes-after (seen_bytes seen) (kind ∷ rest) (subst IsBytes is fits) in
    omega (arith, section_offset seen _ kind rest f (IsBytes-after (kind ∷ []) rest behind) fault, ap length is, length-append (seen_bytes seen) (kind ∷ rest))
sections_offset bytes f fits (without_body qs is fit e) = omega (arith, stands_at f _ _ e)
sections_offset bytes f fits (of_names before body after is a b d e) = omega (arith, names_offset before body after f e, ap length is)

word_offset : (f : MsgFault) (p : ℕ) (c d : MsgCause) (unknown checksum : Bool) → (if unknown then Some (msg_fault p c) else (if checksum then Some (msg_fault p d) else None)) ≡ Some f → f.at ≡ p
word_offset f p c d true checksum is = some_at f p c is
word_offset f p c d false true is = some_at f p d is
word_offset f p c d false false is = absurd (cc)

flags_offset : (word : ℕ) (f : MsgFault) → flags_fault word ≡ Some f → f.at ≡ 16
flags_offset word f is = word_offset f 16 Flags Checksum (nat_le 4 (word % 2 ^ 16)) (bit_at word 0 == 1) is

parts_offset : (bytes : List ℕ) (f : MsgFault) → IsBytes bytes → 16 ≤ length bytes → PartsFault bytes f → f.at ≤ length bytes
parts_offset bytes f fits room (no_flags lt is) = omega (arith, room, stands_at f 16 _ is)
parts_offset bytes f fits room (of_flags long is) = omega (arith, room, flags_offset (number_at bytes 16) f is)
parts_offset bytes f fits room (of_sections long none fault) = omega (arith, long, length-drop 20 bytes, sections_offset (drop 20 bytes) f (IsBytes-drop 20 bytes fits) fault)

pub fault_offset : (bytes : List ℕ) (limit : ℕ) (f : MsgFault) → IsBytes bytes → FaultMsg bytes limit f → f.at ≤ length bytes
fault_offset bytes limit f fits (of_frame fault) = frame_offset bytes limit f fault
fault_offset bytes limit f fits (of_parts framed fault) = parts_offset bytes f fits framed.header fault
