-- A document sequence behind others, and a document in the last of them.
use Rattle.std.proofs.Common.{◌≡◌, ◌≢◌, ℕ, ◌+◌, ◌-◌, ◌^◌, ◌<◌, ◌≤◌, Bool, true, false, nat_eq, List, [], ◌∷◌, ◌++◌, length, take, drop, refl, sym, ap, subst, ◌∙◌, append_assoc, arith, length-append}
use Rattle.std.specs.Prelude.{IsUtf8, ◌||◌, Option, None, is_some, MatchOption}
use Rattle.std.specs.List.{list_any}
use Rattle.std.proofs.Math.Nat.{ℕ_set}
use Rattle.std.proofs.Math.Logic.{∥∥₁_elim, ∥∥₁_prop}
use Rattle.std.proofs.lemmas.Grind.{not_there}
use mathlib.Core.Logic.{∥∥₁_map}
use Rattle.std.proofs.lemmas.Bool.{eqb-false}
use Rattle.std.proofs.lemmas.List.{append-nil, take_at, drop_at}
use Rattle.bson_elem.specs.Trees.{Tree}
use Rattle.bson_elem.specs.Spelling.{little, cstring, document, elements, HasNoZero, Spells}
use Rattle.bson_raw.specs.declared.value.RawBson.{RawBson}
use Rattle.bson_raw.specs.Pairs.{first_named}
use Rattle.bson_raw.specs.Spelled.{IsSpelled}
use Rattle.bson_raw.specs.RawBson.{ShowsFound}
use Rattle.bson_elem.proofs.Lemmas.{length-document}
use Rattle.bson_raw.specs.Split.{IsDocument, documents_bytes}
use Rattle.wire_msg.specs.Messages.{Sequence, Content, sequence_size, AreSequences, AreApart, IsContent}
use Rattle.wire_msg.specs.Spelling.{body_section, sequence_section, sequences_bytes, message_len}
use Rattle.wire_msg.specs.Payload.{AreParts, IsPayload}
use Rattle.wire_msg.specs.Known.{last_offset, IsLastOffset}
use Rattle.wire_msg.specs.Buf.{empty_sequence, with_sequence, IsFree, longer, with_last_document, with_document}
use Rattle.bson_raw.proofs.Lemmas.{AreDocuments-append, documents_bytes-append, is_document}
use Rattle.wire_msg.proofs.SequenceLaws.{sequences-append, AreSequences-append}
use Rattle.wire_msg.proofs.SectionLaws.{length-body}
use Rattle.wire_msg.proofs.ReadLaws.{length-sequence}
use Rattle.wire_msg.proofs.RunLaws.{no_bytes}
use Rattle.wire_msg.proofs.NameLaws.{field_found, found_shown, AreApart-append}
use Rattle.wire_msg.proofs.LastLaws.{last_of_some, offset_behind, only_offset}

-- ---- four bytes that are patched

-- what stands before the four bytes behind a kind byte, and what stands behind them
kind_front : (front four inner s : List ℕ) (last : ℕ) → length front ≡ last → length four ≡ 4 → s ≡ front ++ 1 ∷ (four ++ inner) → (take (last + 1) s ≡ front ++ 1 ∷ []) × (drop (last + 5) s ≡ inner)
kind_front front four inner s last at four-is is =
    let head : List ℕ = front ++ 1 ∷ [] in
    let near : s ≡ head ++ (four ++ inner) = is ∙ sym (append_assoc front (1 ∷ []) (four ++ inner)) in
    let far : s ≡ (head ++ four) ++ inner = near ∙ sym (append_assoc head four inner) in
    let n : length head ≡ last + 1 = omega (arith, length-append front (1 ∷ []), at) in
    let m : length (head ++ four) ≡ last + 5 = omega (arith, length-append head four, n, four-is) in
    (ap (take (last + 1)) near ∙ take_at head (four ++ inner) (last + 1) n, ap (drop (last + 5)) far ∙ drop_at (head ++ four) inner (last + 5) m)

section_is : (q : Sequence) → sequence_section q ≡ 1 ∷ (little (sequence_size q) ++ (cstring q.identifier ++ documents_bytes q.documents))
unfolding sequence_section
section_is q = refl

one_section : (q : Sequence) → sequences_bytes (q ∷ []) ≡ sequence_section q
one_section q = append-nil (sequence_section q)

-- the bytes of a section whose size was put in its place
patched : (front four inner more s new : List ℕ) (last size : ℕ) (q : Sequence) → length front ≡ last → length four ≡ 4 → s ≡ front ++ 1 ∷ (four ++ inner) → size ≡ sequence_size q → inner ++ more ≡ cstring q.identifier ++ documents_bytes q.documents → new ≡ take (last + 1) s ++ (little size ++ (drop (last + 5) s ++ more)) → new ≡ front ++ sequence_section q
patched front four inner more s new last size q at four-is is size-is all put =
    let k = kind_front front four inner s last at four-is is in
    put ∙ ap (λ (x : List ℕ). x ++ (little size ++ (drop (last + 5) s ++ more))) k.0 ∙ ap (λ (x : List ℕ). (front ++ 1 ∷ []) ++ (little size ++ (x ++ more))) k.1 ∙ ap (λ (x : List ℕ). (front ++ 1 ∷ []) ++ (little size ++ x)) all ∙ ap (λ (n : ℕ). (front ++ 1 ∷ []) ++ (little n ++ (cstring q.identifier ++ documents_bytes q.documents))) size-is ∙ append_assoc front (1 ∷ []) (little (sequence_size q) ++ (cstring q.identifier ++ documents_bytes q.documents)) ∙ ap (λ (x : List ℕ). front ++ x) (sym (section_is q))

-- ---- the parts of a payload whose sequences all stand behind the body

-- they are all behind it
only_behind : (b s : List ℕ) (c : Content) → AreParts [] b s c → s ≡ sequences_bytes c.sequences
only_behind b s c p = p.last_are ∙ ap (λ (x : List ℕ). x ++ sequences_bytes p.last) p.first_are ∙ sym (sequences-append p.first p.last) ∙ sym (ap sequences_bytes p.in_order)

length-message : (c : Content) → message_len c ≡ 21 + length (document (elements c.body)) + length (sequences_bytes c.sequences)
length-message c = omega (arith, length-append (body_section c.body) (sequences_bytes c.sequences), length-body c.body)

-- a message is longer than its sequences
pub parts_long : (b s : List ℕ) (c : Content) → AreParts [] b s c → length s + 26 ≤ message_len c
parts_long b s c p = omega (arith, length-message c, ap length (only_behind b s c p), length-document (elements c.body))

parts_are : (b s : List ℕ) (c : Content) → Spells c.body b → s ≡ sequences_bytes c.sequences → IsContent c → message_len c < 2 ^ 31 → AreParts [] b s c
parts_are b s c body is content short = record { first = []; last = c.sequences; first_are = refl; body_is = body; last_are = is; in_order = refl; content = content; short = short }

last_known_at : (b s : List ℕ) (c : Content) (offset : ℕ) → AreParts [] b s c → offset ≡ last_offset c.sequences → IsLastOffset s offset
last_known_at b s c offset p at = only_offset s c.sequences offset p.content.sequences (only_behind b s c p) at

last_is_at : (b s : List ℕ) (c : Content) (offset : ℕ) → AreParts [] b s c → IsLastOffset s offset → offset ≡ last_offset c.sequences
last_is_at b s c offset p at = at c.sequences p.content.sequences (only_behind b s c p)

length-last : (qs : List Sequence) (q : Sequence) → length (sequences_bytes (qs ++ q ∷ [])) ≡ length (sequences_bytes qs) + (1 + sequence_size q)
length-last qs q = omega (arith, ap length (sequences-append qs (q ∷ [])), length-append (sequences_bytes qs) (sequences_bytes (q ∷ [])), ap length (one_section q), length-sequence q)

-- ---- a sequence more

length-empty : (name : List ℕ) → sequence_size (empty_sequence name) ≡ length name + 5
length-empty name = omega (arith, length-append name (0 ∷ []))

pub length-with_sequence : (c : Content) (name : List ℕ) → message_len (with_sequence c name) ≡ message_len c + (length name + 6)
length-with_sequence c name = omega (arith, length-message c, length-message (with_sequence c name), length-last c.sequences (empty_sequence name), length-empty name)

-- the bytes of an empty sequence, one part after another, and its size
pub section_written : (old name one two three new : List ℕ) (last size : ℕ) → last ≡ length old → one ≡ old ++ 1 ∷ 0 ∷ 0 ∷ 0 ∷ 0 ∷ [] → two ≡ one ++ name → three ≡ two ++ 0 ∷ [] → size ≡ length three - (last + 1) → new ≡ take (last + 1) three ++ (little size ++ drop (last + 5) three) → new ≡ old ++ sequence_section (empty_sequence name)
section_written old name one two three new last size at a b d size-is put =
    let four : List ℕ = 0 ∷ 0 ∷ 0 ∷ 0 ∷ [] in
    let is : three ≡ old ++ 1 ∷ (four ++ cstring name) = d ∙ ap (λ (x : List ℕ). x ++ 0 ∷ []) (b ∙ ap (λ (x : List ℕ). x ++ name) a) ∙ append_assoc (old ++ 1 ∷ four) name (0 ∷ []) ∙ append_assoc old (1 ∷ four) (cstring name) in
    let n : size ≡ sequence_size (empty_sequence name) = omega (arith, size-is, at, ap length is, length-append old (1 ∷ (four ++ cstring name)), length-append name (0 ∷ []), length-empty name) in
    patched old four (cstring name) [] three new last size (empty_sequence name) (sym at) refl is n refl (put ∙ ap (λ (x : List ℕ). take (last + 1) three ++ (little size ++ x)) (sym (append-nil (drop (last + 5) three))))

neither : (p q : Bool) → (p || q) ≡ false → (p ≡ false) × (q ≡ false)
neither true q e = absurd cc
neither false q e = (refl, e)

-- where no 00 is found, there is none
no_zero : (bytes : List ℕ) → list_any (λ b. nat_eq b 0) bytes ≡ false → HasNoZero bytes
no_zero [] e = tt
no_zero (b ∷ bytes) e =
    let n = neither (nat_eq b 0) (list_any (λ k. nat_eq k 0) bytes) e in
    (eqb-false b 0 n.0, no_zero bytes n.1)

-- a name that isn't found in the body, and in which no 00 is found
pub free_name : (c : Content) (name bytes : List ℕ) (r : Option RawBson) → MatchOption r (first_named name c.body ≡ None) (λ value. ShowsFound value (first_named name c.body)) → is_some r ≡ false → bytes ≡ name → list_any (λ b. nat_eq b 0) bytes ≡ false → IsFree c name
free_name c name bytes r found none is zeros = (sym (field_found name c.body) ∙ sym (found_shown r (first_named name c.body) found) ∙ none, subst HasNoZero is (no_zero bytes zeros))

-- the longer payload, by the bytes of the sequence behind the others
pub with_sequence_are : (b s new : List ℕ) (c : Content) (name : List ℕ) → AreParts [] b s c → IsUtf8 name → IsFree c name → new ≡ s ++ sequence_section (empty_sequence name) → message_len (with_sequence c name) < 2 ^ 31 → AreParts [] b new (with_sequence c name)
with_sequence_are b s new c name p text free is short =
    let q : Sequence = empty_sequence name in
    let single : sequences_bytes (q ∷ []) ≡ sequence_section q = one_section q in
    let bytes : new ≡ sequences_bytes (c.sequences ++ q ∷ []) = is ∙ ap (λ (x : List ℕ). x ++ sequence_section q) (only_behind b s c p) ∙ ap (λ (x : List ℕ). sequences_bytes c.sequences ++ x) (sym single) ∙ sym (sequences-append c.sequences (q ∷ [])) in
    let content : IsContent (with_sequence c name) = record {
      body = p.content.body;
      sequences = AreSequences-append c.sequences (q ∷ []) p.content.sequences (record { identifier = record { is_text = text; no_zero = free.1 }; documents = tt; short = omega (arith, short, length-message (with_sequence c name), length-last c.sequences q) }, tt);
      unique = p.content.unique;
      apart = AreApart-append c.body c.sequences (q ∷ []) p.content.apart (free.0, tt);
    } in
    parts_are b new (with_sequence c name) p.body_is bytes content short

with_sequence_offset : (b s : List ℕ) (c : Content) (name : List ℕ) → AreParts [] b s c → length s ≡ last_offset (c.sequences ++ empty_sequence name ∷ [])
with_sequence_offset b s c name p = ap length (only_behind b s c p) ∙ sym (offset_behind c.sequences (empty_sequence name))

-- ---- a document more

documents_more : (q : Sequence) (t : Tree) (d : List ℕ) → Spells t d → documents_bytes (longer q t).documents ≡ documents_bytes q.documents ++ d
documents_more q t d s = documents_bytes-append q.documents (t ∷ []) ∙ ap (λ (x : List ℕ). documents_bytes q.documents ++ x) (append-nil (document (elements t)) ∙ sym s.parts)

size_more : (q : Sequence) (t : Tree) (d : List ℕ) → Spells t d → sequence_size (longer q t) ≡ sequence_size q + length d
size_more q t d s = omega (arith, ap length (documents_more q t d s), length-append (documents_bytes q.documents) d)

with_last_is : (qs : List Sequence) (q : Sequence) (t : Tree) → with_last_document (qs ++ q ∷ []) t ≡ qs ++ longer q t ∷ []
with_last_is [] q t = refl
with_last_is (p ∷ []) q t = refl
with_last_is (p ∷ r ∷ qs) q t = ap (λ (x : List Sequence). p ∷ x) (with_last_is (r ∷ qs) q t)

-- the last sequence begins where it did
same_offset : (qs : List Sequence) (t : Tree) → last_offset (with_last_document qs t) ≡ last_offset qs
same_offset [] t = refl
same_offset (q ∷ []) t = refl
same_offset (q ∷ r ∷ []) t = refl
same_offset (q ∷ r ∷ u ∷ qs) t = ap (λ (n : ℕ). length (sequence_section q) + n) (same_offset (r ∷ u ∷ qs) t)

apart_more : (body : Tree) (qs : List Sequence) (t : Tree) → AreApart body qs → AreApart body (with_last_document qs t)
apart_more body [] t a = tt
apart_more body (q ∷ []) t a = (a.0, tt)
apart_more body (q ∷ r ∷ qs) t a = (a.0, apart_more body (r ∷ qs) t a.1)

-- its size is still an int32
fit_more : (qs : List Sequence) (t : Tree) → IsDocument t → AreSequences qs → length (sequences_bytes (with_last_document qs t)) < 2 ^ 31 → AreSequences (with_last_document qs t)
fit_more [] t d fits short = tt
fit_more (q ∷ []) t d fits short = (record { identifier = fits.0.identifier; documents = AreDocuments-append q.documents (t ∷ []) fits.0.documents (d, tt); short = omega (arith, short, length-sequence (longer q t), length-append (sequence_section (longer q t)) []) }, tt)
fit_more (q ∷ r ∷ qs) t d fits short = (fits.0, fit_more (r ∷ qs) t d fits.1 (omega (arith, short, length-append (sequence_section q) (sequences_bytes (with_last_document (r ∷ qs) t)))))

pub length-with_document : (c : Content) (t : Tree) (d : List ℕ) → c.sequences ≢ [] → Spells t d → message_len (with_document c t) ≡ message_len c + length d
length-with_document c t d some s =
    let l = last_of_some c.sequences some in
    let all : with_last_document c.sequences t ≡ l.before ++ longer l.last t ∷ [] = ap (λ (x : List Sequence). with_last_document x t) l.parts ∙ with_last_is l.before l.last t in
    omega (arith, length-message c, length-message (with_document c t), ap (λ (x : List Sequence). length (sequences_bytes x)) l.parts, ap (λ (x : List Sequence). length (sequences_bytes x)) all, length-last l.before l.last, length-last l.before (longer l.last t), size_more l.last t d s)

-- there are bytes of sequences where there are sequences
pub has_sequences : (b s : List ℕ) (c : Content) → length s ≢ 0 → AreParts [] b s c → c.sequences ≢ []
has_sequences b s c some p none = some (ap length (only_behind b s c p ∙ ap sequences_bytes none))

pub has_none : (b s : List ℕ) (c : Content) → length s ≡ 0 → AreParts [] b s c → c.sequences ≡ []
has_none b s c none p = no_bytes s c.sequences (only_behind b s c p) none

-- the last section, and what stands before it
pub record LastSection (s : List ℕ) (c : Content) (offset : ℕ) : Type 0 where
  pub before : List Sequence
  pub last : Sequence
  pub parts : c.sequences ≡ before ++ last ∷ []
  pub offset_is : length (sequences_bytes before) ≡ offset
  pub bytes : s ≡ sequences_bytes before ++ 1 ∷ (little (sequence_size last) ++ (cstring last.identifier ++ documents_bytes last.documents))
  pub room : offset + (1 + sequence_size last) ≡ length s
  pub least : 5 ≤ sequence_size last

last_section : (b s : List ℕ) (c : Content) (offset : ℕ) → AreParts [] b s c → c.sequences ≢ [] → IsLastOffset s offset → LastSection s c offset
last_section b s c offset p some at =
    let l = last_of_some c.sequences some in
    let is : s ≡ sequences_bytes l.before ++ sequence_section l.last = only_behind b s c p ∙ ap sequences_bytes l.parts ∙ sequences-append l.before (l.last ∷ []) ∙ ap (λ (x : List ℕ). sequences_bytes l.before ++ x) (one_section l.last) in
    let offset_is : length (sequences_bytes l.before) ≡ offset = sym (last_is_at b s c offset p at ∙ l.offset) in
    record {
      before = l.before;
      last = l.last;
      parts = l.parts;
      offset_is = offset_is;
      bytes = is ∙ ap (λ (x : List ℕ). sequences_bytes l.before ++ x) (section_is l.last);
      room = omega (arith, ap length is, length-append (sequences_bytes l.before) (sequence_section l.last), length-sequence l.last, offset_is);
      least = omega (arith, length-append l.last.identifier (0 ∷ []));
    }

-- the longer payload, by the bytes of the document behind the others, and the size in its place
pub with_document_are : (b s new d : List ℕ) (c : Content) (t : Tree) (offset size : ℕ) → AreParts [] b s c → c.sequences ≢ [] → IsLastOffset s offset → Spells t d → size ≡ length s + length d - (offset + 1) → new ≡ take (offset + 1) s ++ (little size ++ (drop (offset + 5) s ++ d)) → message_len (with_document c t) < 2 ^ 31 → AreParts [] b new (with_document c t)
with_document_are b s new d c t offset size p some at spelled size-is put short =
    let l = last_section b s c offset p some at in
    let q : Sequence = l.last in
    let n : size ≡ sequence_size (longer q t) = omega (arith, size-is, l.room, size_more q t d spelled) in
    let inner : (cstring q.identifier ++ documents_bytes q.documents) ++ d ≡ cstring q.identifier ++ documents_bytes (longer q t).documents = append_assoc (cstring q.identifier) (documents_bytes q.documents) d ∙ ap (λ (x : List ℕ). cstring q.identifier ++ x) (sym (documents_more q t d spelled)) in
    let section : new ≡ sequences_bytes l.before ++ sequence_section (longer q t) = patched (sequences_bytes l.before) (little (sequence_size q)) (cstring q.identifier ++ documents_bytes q.documents) d s new offset size (longer q t) l.offset_is refl l.bytes n inner put in
    let all : with_last_document c.sequences t ≡ l.before ++ longer q t ∷ [] = ap (λ (x : List Sequence). with_last_document x t) l.parts ∙ with_last_is l.before q t in
    let bytes : new ≡ sequences_bytes (with_last_document c.sequences t) = section ∙ ap (λ (x : List ℕ). sequences_bytes l.before ++ x) (sym (one_section (longer q t))) ∙ sym (sequences-append l.before (longer q t ∷ [])) ∙ sym (ap sequences_bytes all) in
    let content : IsContent (with_document c t) = record {
      body = p.content.body;
      sequences = fit_more c.sequences t (is_document t d spelled) p.content.sequences (omega (arith, short, length-message (with_document c t)));
      unique = p.content.unique;
      apart = apart_more c.body c.sequences t p.content.apart;
    } in
    parts_are b new (with_document c t) p.body_is bytes content short

with_document_offset : (b s : List ℕ) (c : Content) (t : Tree) (offset : ℕ) → AreParts [] b s c → IsLastOffset s offset → offset ≡ last_offset (with_last_document c.sequences t)
with_document_offset b s c t offset p at = last_is_at b s c offset p at ∙ sym (same_offset c.sequences t)

-- ---- where the last sequence of the longer payload begins, whatever it carries

pub sequence_begun : (b s new name : List ℕ) → IsUtf8 name → ((c : Content) → AreParts [] b s c → IsFree c name × (message_len (with_sequence c name) < 2 ^ 31)) → new ≡ s ++ sequence_section (empty_sequence name) → ∥ IsPayload [] b s ∥₁ → ∥ IsPayload [] b new ∥₁ × IsLastOffset new (length s)
sequence_begun b s new name text free is known =
    let are : (c : Content) → AreParts [] b s c → AreParts [] b new (with_sequence c name) = λ c p. with_sequence_are b s new c name p text (free c p).0 is (free c p).1 in (
      ∥∥₁_map known (λ k. (with_sequence k.0 name, are k.0 k.1)),
      λ qs fits same. ∥∥₁_elim known (ℕ_set _ _) (λ k. last_known_at b new (with_sequence k.0 name) (length s) (are k.0 k.1) (with_sequence_offset b s k.0 name k.1) qs fits same),
    )

pub document_added : (b s new d : List ℕ) (offset size : ℕ) → IsLastOffset s offset → ((c : Content) (t : Tree) → AreParts [] b s c → Spells t d → (c.sequences ≢ []) × (message_len (with_document c t) < 2 ^ 31)) → size ≡ length s + length d - (offset + 1) → new ≡ take (offset + 1) s ++ (little size ++ (drop (offset + 5) s ++ d)) → ∥ IsPayload [] b s ∥₁ → ∥ IsSpelled d ∥₁ → ∥ IsPayload [] b new ∥₁ × IsLastOffset new offset
document_added b s new d offset size at fits size-is put known spelled =
    let are : (c : Content) (t : Tree) → AreParts [] b s c → Spells t d → AreParts [] b new (with_document c t) = λ c t p is. with_document_are b s new d c t offset size p (fits c t p is).0 at is size-is put (fits c t p is).1 in (
      ∥∥₁_elim spelled ∥∥₁_prop (λ u. ∥∥₁_map known (λ k. (with_document k.0 u.0, are k.0 u.0 k.1 u.1))),
      λ qs fits' same. ∥∥₁_elim spelled (ℕ_set _ _) (λ u. ∥∥₁_elim known (ℕ_set _ _) (λ k. last_known_at b new (with_document k.0 u.0) offset (are k.0 u.0 k.1 u.1) (with_document_offset b s k.0 u.0 offset k.1 at) qs fits' same)),
    )

-- the same bytes
pub same_payload : (b s new : List ℕ) (offset : ℕ) → new ≡ s → IsLastOffset s offset → ∥ IsPayload [] b s ∥₁ → ∥ IsPayload [] b new ∥₁ × IsLastOffset new offset
same_payload b s new offset is at known = (subst (λ (x : List ℕ). ∥ IsPayload [] b x ∥₁) (sym is) known, subst (λ (x : List ℕ). IsLastOffset x offset) (sym is) at)

-- the offset lies within the bytes, and a size behind it
pub last_inside : (b s : List ℕ) (offset : ℕ) → length s ≢ 0 → IsLastOffset s offset → ∥ IsPayload [] b s ∥₁ → offset + 6 ≤ length s
last_inside b s offset some at known =
    let no : length s < offset + 6 → ⊥ = λ lt. not_there known (λ k. let l = last_section b s k.0 offset k.1 (has_sequences b s k.0 some k.1) at in omega (arith, lt, l.room, l.least)) in
    omega (arith, no)
