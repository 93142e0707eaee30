-- The parts of a message, added one after another.
use Rattle.std.proofs.Common.{◌≡◌, ℕ, ℤ, pos, ◌+◌, ◌<◌, ◌≤◌, ◌^◌, FitsSigned, List, [], ◌∷◌, ◌++◌, length, take, drop, refl, sym, ap, ◌∙◌, append_assoc, arith, length-append, Result, Ok, Err}
use Rattle.std.specs.Io.{StartsWith}
use Rattle.std.specs.Prelude.{OnOk, OnErr, is_ok, if◌then◌else◌}
use Rattle.std.specs.Int.{w32}
use Rattle.std.proofs.Math.Seq.{take-append_seam}
use Rattle.std.proofs.lemmas.List.{take-append-le, take-append-drop}
use Rattle.bson_elem.specs.Trees.{Tree}
use Rattle.bson_elem.specs.Spelling.{little, document, elements}
use Rattle.wire_msg.specs.Messages.{Content, Message, IsContent}
use Rattle.wire_msg.specs.Spelling.{body_section, sequences_bytes, sections_bytes, signed, header_bytes, message_bytes, flag_word, canonical, message_len, SpellsMsg}
use Rattle.wire_msg.specs.Payload.{AreParts}
use Rattle.wire_msg.proofs.FlagLaws.{flag_word_is}
use Rattle.wire_msg.proofs.SequenceLaws.{sequences-append}

pub on_ok : {T E : Type 0} (r : Result T E) (P Q : Type 0) → (P → Q) → OnOk r P → OnOk r Q
on_ok (Ok x) P Q f p = f p
on_ok (Err e) P Q f p = tt

pub on_err : {T E : Type 0} (r : Result T E) (P Q : Type 0) → (P → Q) → OnErr r P → OnErr r Q
on_err (Ok x) P Q f p = tt
on_err (Err e) P Q f p = f p

-- what follows from either outcome
pub on_both : {T E : Type 0} (r : Result T E) (P Q G : Type 0) → OnOk r P → OnErr r Q → (P → G) → (Q → G) → G
on_both (Ok x) P Q G p q f g = f p
on_both (Err e) P Q G p q f g = g q

-- bytes that were added, or not
pub appended : {T E : Type 0} (r : Result T E) (old longer new : List ℕ) → new ≡ (if is_ok r then longer else old) → OnOk r (new ≡ longer)
appended (Ok x) old longer new e = e
appended (Err x) old longer new e = tt

-- what stood before bytes that are kept is kept
pub keeps_front : (old more mid new : List ℕ) → mid ≡ old ++ more → StartsWith new mid → StartsWith new old
keeps_front old more mid new is kept =
    let le : length old ≤ length (take (length mid) new) = omega (arith, ap length kept, ap length is, length-append old more) in
    ap (take (length old)) (sym (take-append-drop (length mid) new)) ∙ take-append-le (length old) (take (length mid) new) (drop (length mid) new) le ∙ ap (take (length old)) (kept ∙ is) ∙ take-append_seam old more

-- bytes added, and then more
pub then_more : (old a b mid new : List ℕ) → mid ≡ old ++ a → new ≡ mid ++ b → new ≡ old ++ (a ++ b)
then_more old a b mid new is more = more ∙ ap (λ (x : List ℕ). x ++ b) is ∙ append_assoc old a b

pub header_added : (len : ℕ) (id response_to : ℤ) (old one two three new : List ℕ) → one ≡ old ++ little len → two ≡ one ++ signed id → three ≡ two ++ signed response_to → new ≡ three ++ signed (pos 2013) → new ≡ old ++ header_bytes len id response_to
unfolding header_bytes
header_added len id response_to old one two three new a b d e =
    then_more old (little len) (signed id ++ (signed response_to ++ little 2013)) one new a (then_more one (signed id) (signed response_to ++ little 2013) two new b (then_more two (signed response_to) (little 2013) three new d e))

pub same_header : (len : ℕ) (i id r response_to : ℤ) → i ≡ id → r ≡ response_to → header_bytes len i r ≡ header_bytes len id response_to
same_header len i id r response_to e f = ap (λ (z : ℤ). header_bytes len z r) e ∙ ap (header_bytes len id) f

pub message_added : (m : Message) (len word : ℕ) (old one two new : List ℕ) → len ≡ message_len m.content → word ≡ flag_word m.flags → one ≡ old ++ header_bytes len m.id m.response_to → two ≡ one ++ little word → new ≡ two ++ sections_bytes [] m.content.body m.content.sequences → new ≡ old ++ canonical m
unfolding message_bytes
message_added m len word old one two new is flags a b d =
    let sections : List ℕ = sections_bytes [] m.content.body m.content.sequences in
    let n : len ≡ length sections + 20 = omega (arith, is) in
    then_more old (header_bytes (length sections + 20) m.id m.response_to) (little (flag_word m.flags) ++ sections) one new
    (a ∙ ap (λ (k : ℕ). old ++ header_bytes k m.id m.response_to) n)
    (then_more one (little (flag_word m.flags)) sections two new (b ∙ ap (λ (k : ℕ). one ++ little k) flags) d)

body_cell : (body : Tree) (x : List ℕ) → body_section body ++ x ≡ 0 ∷ (document (elements body) ++ x)
unfolding body_section
body_cell body x = refl

pub sections_added : (before body after : List ℕ) (c : Content) (old one two three new : List ℕ) → AreParts before body after c → one ≡ old ++ 0 ∷ [] → two ≡ one ++ body → three ≡ two ++ before → new ≡ three ++ after → new ≡ old ++ sections_bytes [] c.body c.sequences
sections_added before body after c old one two three new p a b d e =
    let all : before ++ after ≡ sequences_bytes c.sequences = ap (λ (x : List ℕ). x ++ after) p.first_are ∙ ap (λ (x : List ℕ). sequences_bytes p.first ++ x) p.last_are ∙ sym (sequences-append p.first p.last) ∙ sym (ap sequences_bytes p.in_order) in
    let added : new ≡ old ++ (0 ∷ [] ++ (body ++ (before ++ after))) = then_more old (0 ∷ []) (body ++ (before ++ after)) one new a (then_more one body (before ++ after) two new b (then_more two before after three new d e)) in
    added ∙ ap (λ (x : List ℕ). old ++ 0 ∷ (x ++ (before ++ after))) p.body_is.parts ∙ ap (λ (x : List ℕ). old ++ 0 ∷ (document (elements c.body) ++ x)) all ∙ ap (λ (x : List ℕ). old ++ x) (sym (body_cell c.body (sequences_bytes c.sequences)))

-- ---- the canonical spelling

pub length-canonical : (m : Message) → length (canonical m) ≡ message_len m.content
unfolding header_bytes message_bytes
length-canonical m = omega arith

pub canonical_spelled : (m : Message) → FitsSigned w32 m.id → FitsSigned w32 m.response_to → IsContent m.content → message_len m.content < 2 ^ 31 → SpellsMsg m (canonical m)
canonical_spelled m id response_to content short = record {
  word = flag_word m.flags;
  before = [];
  after = m.content.sequences;
  parts = refl;
  short = omega (arith, short, length-canonical m);
  id = id;
  response_to = response_to;
  flags = flag_word_is m.flags;
  in_order = refl;
  content = content;
}
