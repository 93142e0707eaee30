-- A message that is joined of a body and document sequences.
use Rattle.std.proofs.Common.{◌≡◌, ℕ, ◌+◌, pos, List, [], ◌∷◌, ◌++◌, length, drop, refl, sym, ap, subst, ◌∙◌, arith, append_assoc, length-append, get_or}
use Rattle.bson_elem.specs.Spelling.{Spells, document, elements, little}
use Rattle.bson_elem.specs.Trees.{Tree}
use Rattle.bson_elem.proofs.Lemmas.{same_front}
use Rattle.bson_raw.specs.Spelled.{IsSpelled}
use Rattle.wire_msg.specs.Messages.{Message, Sequence}
use Rattle.wire_msg.specs.Payload.{AreParts}
use Rattle.wire_msg.specs.Spelling.{SpellsMsg, body_section, header_bytes, message_bytes, sections_bytes, sequence_section, sequences_bytes, signed}
use Rattle.wire_msg.proofs.Lemmas.{five_parts, length-spelled, msg_read}
use Rattle.wire_msg.specs.Spelling.{IsMessage}
use Rattle.std.specs.Prelude.{IfOk, OnOk, Result, Ok, Err, Vec}
use Rattle.std.specs.declared.alloc.Global.{Global}
use Rattle.byte_views.specs.declared.content.ContentRefusal.{ContentRefusal}
use Rattle.byte_views.specs.Contents.{content_len, plain_message}

-- the length, the fixed bytes and the sections
pub joined_is : (body sequences : List ℕ) (len : ℕ) → len ≡ content_len body sequences
    → little len ++ ((0 ∷ 0 ∷ 0 ∷ 0 ∷ 0 ∷ 0 ∷ 0 ∷ 0 ∷ 221 ∷ 7 ∷ 0 ∷ 0 ∷ 0 ∷ 0 ∷ 0 ∷ 0 ∷ 0 ∷ []) ++ (body ++ sequences)) ≡ plain_message body sequences
unfolding header_bytes message_bytes
joined_is body sequences len is =
    let n : len ≡ length (0 ∷ (body ++ sequences)) + 20 = omega (arith, is, length-append body sequences) in
    ap (λ (k : ℕ). little k ++ ((0 ∷ 0 ∷ 0 ∷ 0 ∷ 0 ∷ 0 ∷ 0 ∷ 0 ∷ 221 ∷ 7 ∷ 0 ∷ 0 ∷ 0 ∷ 0 ∷ 0 ∷ 0 ∷ 0 ∷ []) ++ (body ++ sequences))) n
    ∙ sym (append_assoc (little (length (0 ∷ (body ++ sequences)) + 20)) (signed (pos 0) ++ (signed (pos 0) ++ little 2013)) (little 0 ++ (0 ∷ (body ++ sequences))))

-- the length, the fixed bytes and the sections, one added behind the other
pub all_joined : (body sequences size_bytes zero one two three four : List ℕ) (len : ℕ) → len ≡ content_len body sequences → size_bytes ≡ little len → zero ≡ [] → one ≡ zero ++ size_bytes
    → two ≡ one ++ (0 ∷ 0 ∷ 0 ∷ 0 ∷ 0 ∷ 0 ∷ 0 ∷ 0 ∷ 221 ∷ 7 ∷ 0 ∷ 0 ∷ 0 ∷ 0 ∷ 0 ∷ 0 ∷ 0 ∷ []) → three ≡ two ++ body → four ≡ three ++ sequences → four ≡ plain_message body sequences
all_joined body sequences size_bytes zero one two three four len size four_are none a b d e =
    let fixed : List ℕ = 0 ∷ 0 ∷ 0 ∷ 0 ∷ 0 ∷ 0 ∷ 0 ∷ 0 ∷ 221 ∷ 7 ∷ 0 ∷ 0 ∷ 0 ∷ 0 ∷ 0 ∷ 0 ∷ 0 ∷ [] in
    let first : one ≡ little len = a ∙ ap (λ (x : List ℕ). x ++ size_bytes) none ∙ four_are in
    let second : two ≡ little len ++ fixed = b ∙ ap (λ (x : List ℕ). x ++ fixed) first in
    let third : three ≡ little len ++ (fixed ++ body) = d ∙ ap (λ (x : List ℕ). x ++ body) second ∙ append_assoc (little len) fixed body in
    let fourth : four ≡ little len ++ (fixed ++ (body ++ sequences)) =
    e ∙ ap (λ (x : List ℕ). x ++ sequences) third ∙ append_assoc (little len) (fixed ++ body) sequences ∙ ap (λ (x : List ℕ). little len ++ x) (append_assoc fixed body sequences) in
    fourth ∙ joined_is body sequences len size

-- the sections behind the flags
plain_sections : (body sequences : List ℕ) → drop 20 (plain_message body sequences) ≡ 0 ∷ (body ++ sequences)
unfolding header_bytes message_bytes
plain_sections body sequences =
    let x : List ℕ = 0 ∷ (body ++ sequences) in
    (five_parts (plain_message body sequences) (little (length x + 20)) (signed (pos 0)) (signed (pos 0)) (little 2013) (little 0) x refl refl refl refl refl refl).after

-- where the first section is a body, no sequence stands before it
body_first : (before after : List Sequence) (t : Tree) (x : List ℕ) → 0 ∷ x ≡ sections_bytes before t after → (before ≡ []) × (x ≡ document (elements t) ++ sequences_bytes after)
unfolding body_section sequence_section
body_first [] after t x is = (refl, ap (λ (l : List ℕ). drop 1 l) is)
body_first (q ∷ qs) after t x is = let z : 0 ≡ 1 = ap (λ (l : List ℕ). get_or l 0 0) is in absurd (omega (arith, z))

-- the body and the sequences are those of the message that they are joined to
pub parts_given : (m : Message) (body sequences : List ℕ) → IsSpelled body → SpellsMsg m (plain_message body sequences) → AreParts [] body sequences m.content
parts_given m body sequences (t, spelled) s =
    let bytes = plain_message body sequences in let u = m.content.body in
    let cut = body_first s.before s.after u (body ++ sequences) (sym (plain_sections body sequences) ∙ (msg_read m bytes s).sections) in
    let same = same_front (body ++ sequences) t u body (document (elements u)) sequences (sequences_bytes s.after) spelled s.content.body refl cut.1 in
    record {
      first = [];
      last = s.after;
      first_are = refl;
      body_is = subst (λ (x : Tree). Spells x body) same.0 spelled;
      last_are = same.1;
      in_order = s.in_order ∙ ap (λ (x : List Sequence). x ++ s.after) cut.0;
      content = s.content;
      short = omega (arith, s.short, length-spelled m bytes s);
    }

-- what is found of the joined bytes, as a call returns it
pub message_found : (limit : ℕ) (body sequences : List ℕ) (r : Result (Vec ℕ Global) ContentRefusal) → IfOk r (λ v. v.items ≡ plain_message body sequences) → OnOk r (IsMessage limit (plain_message body sequences))
    → IfOk r (λ v. IsMessage limit v.items)
message_found limit body sequences (Ok v) is found = subst (λ (x : List ℕ). IsMessage limit x) (sym is) found
message_found limit body sequences (Err e) is found = tt

pub content_found : (body sequences : List ℕ) (r : Result (Vec ℕ Global) ContentRefusal) → OnOk r (IsSpelled body) → IfOk r (λ v. v.items ≡ plain_message body sequences)
    → IfOk r (λ v. (m : Message) → SpellsMsg m v.items → AreParts [] body sequences m.content)
content_found body sequences (Ok v) spelled is = λ m s. parts_given m body sequences spelled (subst (λ (x : List ℕ). SpellsMsg m x) is s)
content_found body sequences (Err e) spelled is = tt
