-- The section that is read is the first of those that are left.
use Rattle.std.proofs.Common.{◌≡◌, ℕ, ◌+◌, ◌-◌, ◌<◌, ◌≤◌, ◌^◌, List, [], ◌∷◌, ◌++◌, length, get_or, take, drop, Ok, Err, refl, sym, ap, subst, ◌∙◌, append_assoc, arith}
use Rattle.std.specs.Prelude.{slice_range}
use Rattle.std.proofs.lemmas.List.{drop-drop, drop_at, drop_more, length-append, length-drop, length-take, take_all, take_at}
use Rattle.std.proofs.lemmas.Nat.{from_le_bytes-to_le_bytes_4}
use Rattle.bson_elem.specs.declared.fault.BsonCause.{BsonCause}
use Rattle.bson_elem.specs.declared.fault.BsonFault.{BsonFault}
use Rattle.bson_elem.specs.Checks.{cstring_at, document_at}
use Rattle.bson_elem.specs.Documents.{IsFramed, elements_of}
use Rattle.bson_elem.specs.Spelling.{cstring, document, elements, little}
use Rattle.bson_elem.specs.Trees.{Tree}
use Rattle.bson_elem.proofs.Lemmas.{cstring_again, ok_is, spelled_read}
use Rattle.bson_raw.specs.Split.{IsDocument, documents_bytes}
use Rattle.wire_msg.specs.Faults.{IsSized, Seen, body_seen, no_body_yet, sequence_rest}
use Rattle.wire_msg.specs.Header.{number_at}
use Rattle.wire_msg.specs.Messages.{IsSequence, Sequence, sequence_size}
use Rattle.wire_msg.specs.Spelling.{body_section, sections_bytes, sequence_section, sequences_bytes}
use Rattle.byte_views.specs.declared.parts.Section.{Section}
use Rattle.byte_views.specs.Sections.{GivesSection, IsBodySection, IsSection, IsSequenceSection, SectionsFrom, ShowsSequence, body_place, section, sequence_place}
use Rattle.byte_views.specs.Sections.{ends, is_body, is_sequence, no_body, no_name, not_sized, of_body, of_kind, of_sequence, past_end}
use Rattle.byte_views.specs.declared.view.View.{View}
use Rattle.byte_views.specs.Views.{IsView, no_view, view}
use Rattle.byte_views.proofs.Places.{part_is}

-- all bytes from an offset on
tail_is : (bytes : List ℕ) (at : ℕ) → slice_range bytes at (length bytes) ≡ drop at bytes
tail_is bytes at = take_all (length bytes - at) (drop at bytes) (omega (arith, length-drop at bytes))

-- what is behind a part of them
behind : (bytes front rest : List ℕ) (at next : ℕ) → at ≤ length bytes → drop at bytes ≡ front ++ rest → next ≡ at + length front → (next ≤ length bytes) × (drop next bytes ≡ rest)
behind bytes front rest at next le is next_is = (
  omega (arith, ap length is, length-drop at bytes, length-append front rest, next_is, le),
  ap (λ (n : ℕ). drop n bytes) next_is ∙ sym (drop-drop (length front) at bytes) ∙ ap (drop (length front)) is ∙ drop_at front rest (length front) refl,
)

document_size : (body : List ℕ) → length (document body) ≡ length body + 5
document_size body = omega (arith, length-append body (0 ∷ []))

-- ---- the end

end_given : (bytes : List ℕ) (at : ℕ) (s : Section) → IsSection bytes at s → at ≤ length bytes → drop at bytes ≡ [] → s.kind ≡ 0
end_given bytes at s (past_end lt is) le none = absurd (omega (arith, lt, le))
end_given bytes at s (ends last is) le none = ap (λ (x : Section). x.kind) is
end_given bytes at s (of_body rest there is) le none = absurd (let no : 0 ∷ rest ≡ [] = sym there ∙ none in cc)
end_given bytes at s (of_sequence rest there is) le none = absurd (let no : 1 ∷ rest ≡ [] = sym there ∙ none in cc)
end_given bytes at s (of_kind kind rest there a b is) le none = absurd (let no : kind ∷ rest ≡ [] = sym there ∙ none in cc)

-- ---- a body

same_tail : (a b : ℕ) (x y : List ℕ) → a ∷ x ≡ b ∷ y → (a ≡ b) × (x ≡ y)
same_tail a b x y is = (cc, cc)

body_placed : (at : ℕ) (s : Section) (t : Tree) (rest after : List ℕ) → IsDocument t → rest ≡ document (elements t) ++ after → IsBodySection rest at s → s ≡ body_place at (length (elements t) + 5)
body_placed at s t rest after fits is (is_body body more read place) =
    let r : document_at 0 0 rest ≡ Ok (elements t, after) = spelled_read rest t (document (elements t)) after fits is in
    let same : (body, more) ≡ (elements t, after) = ok_is {E = BsonFault} (body, more) (elements t, after) (sym read ∙ r) in
    place ∙ ap (λ (x : List ℕ × List ℕ). body_place at (length x.0 + 5)) same
body_placed at s t rest after fits is (no_body f read place) =
    let r : document_at 0 0 rest ≡ Ok (elements t, after) = spelled_read rest t (document (elements t)) after fits is in
    absurd (let no : Err f ≡ Ok (elements t, after) = sym read ∙ r in cc)

body_given : (bytes : List ℕ) (at : ℕ) (s : Section) (t : Tree) (after : List ℕ) → IsSection bytes at s → at ≤ length bytes → drop at bytes ≡ 0 ∷ (document (elements t) ++ after) → IsDocument t → s ≡ body_place at (length (elements t) + 5)
body_given bytes at s t after (past_end lt is) le there fits = absurd (omega (arith, lt, le))
body_given bytes at s t after (ends last is) le there fits = absurd (omega (arith, last, ap length there, length-drop at bytes))
body_given bytes at s t after (of_body rest front is) le there fits = body_placed at s t rest after fits (same_tail 0 0 rest (document (elements t) ++ after) (sym front ∙ there)).1 is
body_given bytes at s t after (of_sequence rest front is) le there fits = absurd (let h = same_tail 1 0 rest (document (elements t) ++ after) (sym front ∙ there) in omega (arith, h.0))
body_given bytes at s t after (of_kind kind rest front a b is) le there fits = absurd (a (same_tail kind 0 rest (document (elements t) ++ after) (sym front ∙ there)).0)

-- ---- a document sequence

-- what follows the kind byte
abbrev behind_kind : Sequence → List ℕ → List ℕ
behind_kind q after = little (sequence_size q) ++ ((cstring q.identifier ++ documents_bytes q.documents) ++ after)

sequence_front : (q : Sequence) (after : List ℕ) → sequence_section q ++ after ≡ 1 ∷ behind_kind q after
unfolding sequence_section
sequence_front q after = ap (λ (x : List ℕ). 1 ∷ x) (append_assoc (little (sequence_size q)) (cstring q.identifier ++ documents_bytes q.documents) after)

number_in : (n : ℕ) (rest : List ℕ) → n < 2 ^ 32 → number_at (little n ++ rest) 0 ≡ n
number_in n rest lt = from_le_bytes-to_le_bytes_4 n lt

section_read : (q : Sequence) (after rest : List ℕ) → IsSequence q → rest ≡ behind_kind q after → IsSized rest × (cstring_at (sequence_rest rest) ≡ Ok (q.identifier, documents_bytes q.documents))
section_read q after rest fits is =
    let part : List ℕ = cstring q.identifier ++ documents_bytes q.documents in
    let n : number_at rest 0 ≡ sequence_size q = ap (λ (x : List ℕ). number_at x 0) is ∙ number_in (sequence_size q) (part ++ after) (omega (arith, fits.short)) in
    let size : sequence_size q ≡ 4 + length part = omega (arith, length-append (cstring q.identifier) (documents_bytes q.documents)) in
    let count : number_at rest 0 - 4 ≡ length part = omega (arith, n, size) in
    let room : length rest ≡ 4 + (length part + length after) = ap length is ∙ (let e : length (behind_kind q after) ≡ 4 + (length part + length after) = omega (arith, length-append part after) in e) in
    let there : sequence_rest rest ≡ part = ap (λ (k : ℕ). take k (drop 4 rest)) count ∙ ap (λ (x : List ℕ). take (length part) (drop 4 x)) is ∙ take_at part after (length part) refl in (
      record { four = omega (arith, room); least = omega (arith, n, size, length-append (cstring q.identifier) (documents_bytes q.documents), length-append q.identifier (0 ∷ [])); most = omega (arith, n, size, room) },
      ap cstring_at there ∙ cstring_again q.identifier (documents_bytes q.documents) fits.identifier,
    )

placed : (at : ℕ) (s : Section) (q : Sequence) (after rest : List ℕ) → IsSequence q → rest ≡ behind_kind q after → IsSequenceSection rest at s → s ≡ sequence_place at (length q.identifier) (length (documents_bytes q.documents))
placed at s q after rest fits is (is_sequence name documents sized read place) =
    let r = section_read q after rest fits is in
    let same : (name, documents) ≡ (q.identifier, documents_bytes q.documents) = ok_is {E = BsonCause} (name, documents) (q.identifier, documents_bytes q.documents) (sym read ∙ r.1) in
    place ∙ ap (λ (x : List ℕ × List ℕ). sequence_place at (length x.0) (length x.1)) same
placed at s q after rest fits is (not_sized sized place) = absurd (sized (section_read q after rest fits is).0)
placed at s q after rest fits is (no_name c sized read place) =
    absurd (let no : Err c ≡ Ok (q.identifier, documents_bytes q.documents) = sym read ∙ (section_read q after rest fits is).1 in cc)

sequence_given : (bytes : List ℕ) (at : ℕ) (s : Section) (q : Sequence) (after : List ℕ) → IsSection bytes at s → at ≤ length bytes → drop at bytes ≡ 1 ∷ behind_kind q after → IsSequence q → s ≡ sequence_place at (length q.identifier) (length (documents_bytes q.documents))
sequence_given bytes at s q after (past_end lt is) le there fits = absurd (omega (arith, lt, le))
sequence_given bytes at s q after (ends last is) le there fits = absurd (omega (arith, last, ap length there, length-drop at bytes))
sequence_given bytes at s q after (of_body rest front is) le there fits = absurd (let h = same_tail 0 1 rest (behind_kind q after) (sym front ∙ there) in omega (arith, h.0))
sequence_given bytes at s q after (of_sequence rest front is) le there fits = placed at s q after rest fits (same_tail 1 1 rest (behind_kind q after) (sym front ∙ there)).1 is
sequence_given bytes at s q after (of_kind kind rest front a b is) le there fits = absurd (b (same_tail kind 1 rest (behind_kind q after) (sym front ∙ there)).0)

-- what is shown of it, and what is left
record Given (bytes : List ℕ) (s : Section) (q : Sequence) (after : List ℕ) : Type 0 where
  shown : ShowsSequence bytes s q
  within : s.next ≤ length bytes
  left : drop s.next bytes ≡ after

shows_sequence : (bytes : List ℕ) (at : ℕ) (s : Section) (q : Sequence) (after : List ℕ) → IsSection bytes at s → at ≤ length bytes → drop at bytes ≡ sequence_section q ++ after → IsSequence q → Given bytes s q after
shows_sequence bytes at s q after step le is fits =
    let name : List ℕ = q.identifier in
    let docs : List ℕ = documents_bytes q.documents in
    let front : List ℕ = 1 ∷ little (sequence_size q) in
    let there : drop at bytes ≡ 1 ∷ behind_kind q after = is ∙ sequence_front q after in
    let place = sequence_given bytes at s q after step le there fits in
    let first : slice_range bytes at (length bytes) ≡ front ++ (name ++ (0 ∷ (docs ++ after))) = tail_is bytes at ∙ there ∙ simp append_assoc refl in
    let second : slice_range bytes at (length bytes) ≡ (front ++ cstring name) ++ (docs ++ after) = tail_is bytes at ∙ there ∙ simp append_assoc refl in
    let whole : drop at bytes ≡ ((front ++ cstring name) ++ docs) ++ after = there ∙ simp append_assoc refl in
    let size : length ((front ++ cstring name) ++ docs) ≡ 6 + length name + length docs = omega (arith, length-append (front ++ cstring name) docs, length-append front (cstring name), length-append name (0 ∷ [])) in
    let b = behind bytes ((front ++ cstring name) ++ docs) after at (at + 6 + length name + length docs) le whole (omega (arith, size)) in
    subst (λ (x : Section). Given bytes x q after) (sym place) (record {
      shown = record {
        kind = refl;
        identifier = part_is bytes at (length bytes) front name (0 ∷ (docs ++ after)) le (omega arith) first (at + 5) (length name) (omega arith) refl;
        documents = part_is bytes at (length bytes) (front ++ cstring name) docs after le (omega arith) second (at + 6 + length name) (length docs) (omega (arith, length-append front (cstring name), length-append name (0 ∷ []))) refl;
      };
      within = b.0;
      left = b.1;
    })

-- ---- all sections

body_front : (t : Tree) (after : List ℕ) → body_section t ++ after ≡ 0 ∷ (document (elements t) ++ after)
unfolding body_section
body_front t after = refl

pub section_gives : (bytes : List ℕ) (at : ℕ) (s : Section) → IsSection bytes at s → (left : Seen) → SectionsFrom bytes at left → GivesSection bytes s left
section_gives bytes at s step (no_body_yet []) from = end_given bytes at s step from.0 from.2
section_gives bytes at s step (no_body_yet (q ∷ qs)) from =
    let g = shows_sequence bytes at s q (sequences_bytes qs) step from.0 from.2 from.1.0 in
    (g.shown, (g.within, from.1.1, g.left))
section_gives bytes at s step (body_seen [] t after) from =
    let there : drop at bytes ≡ 0 ∷ (document (elements t) ++ sequences_bytes after) = from.2 ∙ body_front t (sequences_bytes after) in
    let place = body_given bytes at s t (sequences_bytes after) step from.0 there from.1.1 in
    let whole : drop at bytes ≡ (0 ∷ document (elements t)) ++ sequences_bytes after = there in
    let b = behind bytes (0 ∷ document (elements t)) (sequences_bytes after) at (at + 1 + (length (elements t) + 5)) from.0 whole (omega (arith, document_size (elements t))) in
    let v = part_is bytes at (length bytes) (0 ∷ []) (document (elements t)) (sequences_bytes after) from.0 (omega arith) (tail_is bytes at ∙ there) (at + 1) (length (elements t) + 5) (omega arith) (sym (document_size (elements t))) in
    subst (λ (x : Section). (x.kind ≡ 1) × IsView bytes x.documents (document (elements t)) × SectionsFrom bytes x.next (no_body_yet after)) (sym place) (refl, v, (b.0, from.1.2, b.1))
section_gives bytes at s step (body_seen (q ∷ qs) t after) from =
    let more : List ℕ = sections_bytes qs t after in
    let parts : drop at bytes ≡ sequence_section q ++ more = from.2 ∙ append_assoc (sequence_section q) (sequences_bytes qs) (body_section t ++ sequences_bytes after) in
    let g = shows_sequence bytes at s q more step from.0 parts from.1.0.0 in
    (g.shown, (g.within, (from.1.0.1, from.1.1, from.1.2), g.left))

-- ---- the code's section

pub is_cell : (bytes : List ℕ) (at : ℕ) → at < length bytes → drop at bytes ≡ get_or bytes at 0 ∷ drop (at + 1) bytes
is_cell bytes at lt = drop_more bytes at 0 lt

pub sequence_read : (rest : List ℕ) (at size : ℕ) (name documents : List ℕ) (identifier place : View) (s : Section) → size ≡ number_at rest 0 → IsSized rest → cstring_at (slice_range rest 4 size) ≡ Ok (name, documents) → length name + 1 + length documents ≡ length (slice_range rest 4 size)
    → identifier ≡ view (at + 5) (length name) → place ≡ view (at + 6 + length name) (length documents) → s ≡ section 2 identifier place (at + 1 + size) → IsSequenceSection rest at s
sequence_read rest at size name documents identifier place s size_is sized read parts identifier_is place_is is =
    let room : length (slice_range rest 4 size) ≡ size - 4 = omega (arith, length-take (size - 4) (drop 4 rest), length-drop 4 rest, sized.most, size_is) in
    let next : at + 1 + size ≡ at + 6 + length name + length documents = omega (arith, parts, room, sized.least, size_is) in
    is_sequence name documents sized (ap (λ (n : ℕ). cstring_at (slice_range rest 4 n)) (sym size_is) ∙ read) (is ∙ rw (identifier_is, place_is, next) refl)

pub cell_is : (bytes : List ℕ) (at kind : ℕ) → at < length bytes → get_or bytes at 0 ≡ kind → drop at bytes ≡ kind ∷ slice_range bytes (at + 1) (length bytes)
cell_is bytes at kind lt is = is_cell bytes at lt ∙ ap (λ (b : ℕ). b ∷ drop (at + 1) bytes) is ∙ ap (λ (x : List ℕ). kind ∷ x) (sym (tail_is bytes (at + 1)))

pub body_read : (rest : List ℕ) (at : ℕ) (whole after : List ℕ) (place : View) (s : Section) → document_at 0 0 rest ≡ Ok (elements_of whole, after) → IsFramed whole → place ≡ view (at + 1) (length whole) → s ≡ section 1 no_view place (at + 1 + length whole) → IsBodySection rest at s
body_read rest at whole after place s read framed place_is is =
    let n : length whole ≡ length (elements_of whole) + 5 = ap length framed ∙ document_size (elements_of whole) in
    is_body (elements_of whole) after read (is ∙ ap (λ (v : View). section 1 no_view v (at + 1 + length whole)) place_is ∙ ap (body_place at) n)
