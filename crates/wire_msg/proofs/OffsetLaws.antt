-- Where the parts of a message stand that is known to be one.
use Rattle.std.proofs.Common.{◌≡◌, ◌≢◌, ℕ, ◌+◌, ◌-◌, ◌^◌, ◌<◌, ◌≤◌, List, [], ◌∷◌, ◌++◌, length, get_or, take, drop, refl, sym, ap, subst, ◌∙◌, append_assoc, arith, length-append, length-drop, add-zero}
use Rattle.std.specs.Prelude.{slice_range}
use Rattle.std.specs.Int.{w32, from_le_bytes}
use Rattle.std.proofs.lemmas.Grind.{not_there}
use Rattle.std.proofs.lemmas.List.{get_or-drop, drop-drop, drop_at, take_at}
use Rattle.bson_elem.specs.Trees.{Tree}
use Rattle.bson_elem.specs.Spelling.{document, elements, Spells}
use Rattle.bson_raw.specs.Spelled.{IsSpelled}
use Rattle.wire_msg.specs.Messages.{Sequence, Content, Message, AreSequences, sequence_size}
use Rattle.wire_msg.specs.Spelling.{body_section, sequence_section, sequences_bytes, message_len, SpellsMsg, IsSpelledMsg}
use Rattle.wire_msg.specs.Checks.{HasSequences}
use Rattle.wire_msg.specs.Known.{BeginsSequence}
use Rattle.wire_msg.specs.Payload.{AreParts, IsPayload}
use Rattle.wire_msg.proofs.SequenceLaws.{sequences-append}
use Rattle.wire_msg.proofs.SectionLaws.{length-body}
use Rattle.wire_msg.proofs.ReadLaws.{DocumentRead, document_read, length-sequence}
use Rattle.wire_msg.proofs.MsgAnswers.{msg_read, AreSequences-split}

-- ---- the offset of the body

-- sequences are left before the body
pub record OffsetSoFar (m : Message) (bytes : List ℕ) (s : SpellsMsg m bytes) (at : ℕ) : Type 0 where
  pub left : List Sequence
  pub fits : AreSequences left
  pub parts : drop at bytes ≡ sequences_bytes left ++ (body_section m.content.body ++ sequences_bytes s.after)
  pub offset : at + length (sequences_bytes left) ≡ 20 + length (sequences_bytes s.before)

pub offset_begins : (m : Message) (bytes : List ℕ) (s : SpellsMsg m bytes) → OffsetSoFar m bytes s 20
offset_begins m bytes s = record { left = s.before; fits = (AreSequences-split s.before s.after (subst AreSequences s.in_order s.content.sequences)).0; parts = (msg_read m bytes s).sections; offset = refl }

offset_inside : (m : Message) (bytes : List ℕ) (s : SpellsMsg m bytes) (at : ℕ) → OffsetSoFar m bytes s at → at < length bytes
offset_inside m bytes s at p = omega (arith, ap length p.parts, length-drop at bytes, length-append (sequences_bytes p.left) (body_section m.content.body ++ sequences_bytes s.after), length-append (body_section m.content.body) (sequences_bytes s.after), length-body m.content.body)

pub offset_known : (bytes : List ℕ) (at : ℕ) → ∥ IsSpelledMsg bytes ∥₁ → ((m : Message) (s : SpellsMsg m bytes) → OffsetSoFar m bytes s at) → at < length bytes
offset_known bytes at known p =
    let no : length bytes ≤ at → ⊥ = λ le. not_there known (λ k. let lt = offset_inside k.0 bytes k.1 at (p k.0 k.1) in omega (arith, lt, le)) in
    omega (arith, no)

first_cell : (bytes : List ℕ) (at b : ℕ) (rest : List ℕ) → drop at bytes ≡ b ∷ rest → get_or bytes at 0 ≡ b
first_cell bytes at b rest is = ap (λ (n : ℕ). get_or bytes n 0) (sym (add-zero at)) ∙ sym (get_or-drop at bytes 0 0) ∙ ap (λ (x : List ℕ). get_or x 0 0) is

body_cell : (body : Tree) (x : List ℕ) → body_section body ++ x ≡ 0 ∷ (document (elements body) ++ x)
unfolding body_section
body_cell body x = refl

sequence_cell : (q : Sequence) (x : List ℕ) → (rest : List ℕ) × (sequence_section q ++ x ≡ 1 ∷ rest)
unfolding sequence_section
sequence_cell q x = (_, refl)

-- where a sequence's kind byte stands, a sequence is left
pub record FirstBefore (m : Message) (bytes : List ℕ) (s : SpellsMsg m bytes) (at : ℕ) : Type 0 where
  pub sequence : Sequence
  pub others : List Sequence
  pub fits : AreSequences (sequence ∷ others)
  pub parts : drop at bytes ≡ sequence_section sequence ++ (sequences_bytes others ++ (body_section m.content.body ++ sequences_bytes s.after))
  pub offset : at + length (sequence_section sequence) + length (sequences_bytes others) ≡ 20 + length (sequences_bytes s.before)

first_cases : (m : Message) (bytes : List ℕ) (s : SpellsMsg m bytes) (at : ℕ) (left : List Sequence) → get_or bytes at 0 ≡ 1 → AreSequences left → drop at bytes ≡ sequences_bytes left ++ (body_section m.content.body ++ sequences_bytes s.after) → at + length (sequences_bytes left) ≡ 20 + length (sequences_bytes s.before) → FirstBefore m bytes s at
first_cases m bytes s at [] one fits is offset = absurd (let zero_is = first_cell bytes at 0 (document (elements m.content.body) ++ sequences_bytes s.after) (is ∙ body_cell m.content.body (sequences_bytes s.after)) in omega (arith, one, zero_is))
first_cases m bytes s at (q ∷ others) one fits is offset = record {
  sequence = q;
  others = others;
  fits = fits;
  parts = is ∙ append_assoc (sequence_section q) (sequences_bytes others) (body_section m.content.body ++ sequences_bytes s.after);
  offset = omega (arith, offset, length-append (sequence_section q) (sequences_bytes others));
}

pub first_before : (m : Message) (bytes : List ℕ) (s : SpellsMsg m bytes) (at : ℕ) → get_or bytes at 0 ≡ 1 → OffsetSoFar m bytes s at → FirstBefore m bytes s at
first_before m bytes s at one p = first_cases m bytes s at p.left one p.fits p.parts p.offset

pub offset_more : (m : Message) (bytes : List ℕ) (s : SpellsMsg m bytes) (at size : ℕ) → (f : FirstBefore m bytes s at) → size ≡ sequence_size f.sequence → OffsetSoFar m bytes s (at + (1 + size))
offset_more m bytes s at size f is =
    let n : at + (1 + size) ≡ at + length (sequence_section f.sequence) = omega (arith, is, length-sequence f.sequence) in
    record {
      left = f.others;
      fits = f.fits.1;
      parts = ap (λ (k : ℕ). drop k bytes) n ∙ sym (drop-drop (length (sequence_section f.sequence)) at bytes) ∙ ap (drop (length (sequence_section f.sequence))) f.parts ∙ drop_at (sequence_section f.sequence) (sequences_bytes f.others ++ (body_section m.content.body ++ sequences_bytes s.after)) (length (sequence_section f.sequence)) refl;
      offset = omega (arith, f.offset, n);
    }

pub begins_before : (m : Message) (bytes : List ℕ) (s : SpellsMsg m bytes) (at : ℕ) → FirstBefore m bytes s at → BeginsSequence (drop at bytes)
begins_before m bytes s at f = (f.sequence, sequences_bytes f.others ++ (body_section m.content.body ++ sequences_bytes s.after), f.fits.0, f.parts)

done_cases : (m : Message) (bytes : List ℕ) (s : SpellsMsg m bytes) (at : ℕ) (left : List Sequence) → get_or bytes at 0 ≢ 1 → drop at bytes ≡ sequences_bytes left ++ (body_section m.content.body ++ sequences_bytes s.after) → at + length (sequences_bytes left) ≡ 20 + length (sequences_bytes s.before) → at ≡ 20 + length (sequences_bytes s.before)
done_cases m bytes s at [] ne is offset = sym (add-zero at) ∙ offset
done_cases m bytes s at (q ∷ others) ne is offset =
    let front = sequence_cell q (sequences_bytes others ++ (body_section m.content.body ++ sequences_bytes s.after)) in
    absurd (ne (first_cell bytes at 1 front.0 (is ∙ append_assoc (sequence_section q) (sequences_bytes others) (body_section m.content.body ++ sequences_bytes s.after) ∙ front.1)))

pub offset_done : (m : Message) (bytes : List ℕ) (s : SpellsMsg m bytes) (at : ℕ) → get_or bytes at 0 ≢ 1 → OffsetSoFar m bytes s at → at ≡ 20 + length (sequences_bytes s.before)
offset_done m bytes s at ne p = done_cases m bytes s at p.left ne p.parts p.offset

-- ---- the parts, by the offset of the body

pub record PartsRead (m : Message) (bytes : List ℕ) (s : SpellsMsg m bytes) (at : ℕ) : Type 0 where
  pub document_is : DocumentRead (drop (at + 1) bytes) m.content.body (sequences_bytes s.after)
  pub before : slice_range bytes 20 at ≡ sequences_bytes s.before
  pub room : length (drop (at + 1) bytes) + (at + 1) ≡ length bytes
  pub low : 20 ≤ at

pub parts_read : (m : Message) (bytes : List ℕ) (s : SpellsMsg m bytes) (at : ℕ) → at ≡ 20 + length (sequences_bytes s.before) → PartsRead m bytes s at
parts_read m bytes s at is =
    let r = msg_read m bytes s in
    let n : length (sequences_bytes s.before) ≡ at - 20 = omega (arith, is) in
    let back : at ≡ 20 + length (sequences_bytes s.before) = is in
    let behind : drop at bytes ≡ body_section m.content.body ++ sequences_bytes s.after = ap (λ (k : ℕ). drop k bytes) is ∙ sym (drop-drop (length (sequences_bytes s.before)) 20 bytes) ∙ ap (drop (length (sequences_bytes s.before))) r.sections ∙ drop_at (sequences_bytes s.before) (body_section m.content.body ++ sequences_bytes s.after) (length (sequences_bytes s.before)) refl in
    let rest : drop (at + 1) bytes ≡ document (elements m.content.body) ++ sequences_bytes s.after = sym (drop-drop 1 at bytes) ∙ ap (drop 1) (behind ∙ body_cell m.content.body (sequences_bytes s.after)) in
    let d = document_read (drop (at + 1) bytes) m.content.body (sequences_bytes s.after) s.content.body rest in
    record {
      document_is = d;
      before = ap (λ (k : ℕ). take k (drop 20 bytes)) (sym n) ∙ ap (take (length (sequences_bytes s.before))) r.sections ∙ take_at (sequences_bytes s.before) (body_section m.content.body ++ sequences_bytes s.after) (length (sequences_bytes s.before)) refl;
      room = omega (arith, d.least, length-drop (at + 1) bytes);
      low = omega (arith, is);
    }

pub known_parts : (bytes : List ℕ) (at : ℕ) → ∥ IsSpelledMsg bytes ∥₁ → ((m : Message) (s : SpellsMsg m bytes) → at ≡ 20 + length (sequences_bytes s.before)) → (20 ≤ at) × (at + 6 ≤ length bytes) × (at + 1 + from_le_bytes w32 (take 4 (drop (at + 1) bytes)) ≤ length bytes)
known_parts bytes at known is =
    let low : at < 20 → ⊥ = λ lt. not_there known (λ k. let r = parts_read k.0 bytes k.1 at (is k.0 k.1) in omega (arith, lt, r.low)) in
    let long : length bytes < at + 6 → ⊥ = λ lt. not_there known (λ k. let r = parts_read k.0 bytes k.1 at (is k.0 k.1) in omega (arith, lt, r.document_is.least, r.room)) in
    let most : length bytes < at + 1 + from_le_bytes w32 (take 4 (drop (at + 1) bytes)) → ⊥ = λ lt. not_there known (λ k. let r = parts_read k.0 bytes k.1 at (is k.0 k.1) in omega (arith, lt, r.document_is.within, r.document_is.len, r.room)) in
    (omega (arith, low), omega (arith, long), omega (arith, most))

-- ---- a payload

parts_len : (before body after : List ℕ) (c : Content) → AreParts before body after c → 20 + (length before + 1 + length body + length after) ≡ message_len c
parts_len before body after c p =
    let all : sequences_bytes c.sequences ≡ sequences_bytes p.first ++ sequences_bytes p.last = ap sequences_bytes p.in_order ∙ sequences-append p.first p.last in
    omega (arith, ap length all, ap length p.first_are, ap length p.last_are, ap length p.body_is.parts, length-body c.body, length-append (sequences_bytes p.first) (sequences_bytes p.last), length-append (body_section c.body) (sequences_bytes c.sequences))

pub payload_len : (before body after : List ℕ) (c : Content) → AreParts before body after c → 20 + (length before + 1 + length body + length after) ≡ message_len c
payload_len before body after c p = parts_len before body after c p

pub payload_short : (before body after : List ℕ) → ∥ IsPayload before body after ∥₁ → 20 + (length before + 1 + length body + length after) < 2 ^ 31
payload_short before body after known =
    let no : 2 ^ 31 ≤ 20 + (length before + 1 + length body + length after) → ⊥ = λ le. not_there known (λ k. omega (arith, le, parts_len before body after k.0 k.1, k.1.short)) in
    omega (arith, no)

pub first_known : (before body after : List ℕ) → IsPayload before body after → HasSequences before
first_known before body after (c, p) = (p.first, (AreSequences-split p.first p.last (subst AreSequences p.in_order p.content.sequences)).0, p.first_are)

pub last_known : (before body after : List ℕ) → IsPayload before body after → HasSequences after
last_known before body after (c, p) = (p.last, (AreSequences-split p.first p.last (subst AreSequences p.in_order p.content.sequences)).1, p.last_are)

-- the parts of a message are those of what it carries
pub msg_parts : (m : Message) (bytes before d after : List ℕ) (s : SpellsMsg m bytes) → before ≡ sequences_bytes s.before → d ≡ document (elements m.content.body) → after ≡ sequences_bytes s.after → AreParts before d after m.content
msg_parts m bytes before d after s a b e =
    let r = msg_read m bytes s in
    let all : sequences_bytes m.content.sequences ≡ sequences_bytes s.before ++ sequences_bytes s.after = ap sequences_bytes s.in_order ∙ sequences-append s.before s.after in
    record {
      first = s.before;
      last = s.after;
      first_are = a;
      body_is = subst (Spells m.content.body) (sym b) s.content.body;
      last_are = e;
      in_order = s.in_order;
      content = s.content;
      short = omega (arith, s.short, r.long, ap length r.sections, length-drop 20 bytes, ap length all, length-append (sequences_bytes s.before) (body_section m.content.body ++ sequences_bytes s.after), length-append (body_section m.content.body) (sequences_bytes s.after), length-append (sequences_bytes s.before) (sequences_bytes s.after), length-append (body_section m.content.body) (sequences_bytes m.content.sequences));
    }

-- the parts of a message, by the offsets of its body and of what follows it
pub parts_at : (m : Message) (bytes : List ℕ) (s : SpellsMsg m bytes) (at next : ℕ) → at ≡ 20 + length (sequences_bytes s.before) → next ≡ at + 1 + length (document (elements m.content.body)) → (slice_range bytes 20 at ≡ sequences_bytes s.before) × (slice_range bytes (at + 1) next ≡ document (elements m.content.body)) × (drop next bytes ≡ sequences_bytes s.after)
parts_at m bytes s at next is end =
    let r = parts_read m bytes s at is in
    let n : next - (at + 1) ≡ length (document (elements m.content.body)) = omega (arith, end) in
    (r.before, ap (λ (k : ℕ). take k (drop (at + 1) bytes)) n ∙ r.document_is.front, ap (λ (k : ℕ). drop k bytes) end ∙ sym (drop-drop (length (document (elements m.content.body))) (at + 1) bytes) ∙ r.document_is.after)

pub document_at_offset : (bytes : List ℕ) (at next : ℕ) → ((m : Message) (s : SpellsMsg m bytes) → at ≡ 20 + length (sequences_bytes s.before)) → ((m : Message) (s : SpellsMsg m bytes) → next ≡ at + 1 + length (document (elements m.content.body))) → IsSpelledMsg bytes → IsSpelled (slice_range bytes (at + 1) next)
document_at_offset bytes at next is end (m, s) = let p = parts_at m bytes s at next (is m s) (end m s) in (m.content.body, subst (Spells m.content.body) (sym p.1) s.content.body)
