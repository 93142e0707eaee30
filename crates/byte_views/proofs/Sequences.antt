-- Document sequences that are put one behind the other.
use Rattle.std.proofs.Common.{◌≡◌, ℕ, ◌+◌, ◌≤◌, List, [], ◌∷◌, ◌++◌, length, take, drop, sym, ap, ◌∙◌, arith, append_assoc, length-append}
use Rattle.std.proofs.Math.Seq.{take-append_seam}
use Rattle.std.proofs.lemmas.List.{append-nil, length-take-le}
use Rattle.bson_elem.specs.Spelling.{cstring, little}
use Rattle.bson_elem.specs.Trees.{Tree}
use Rattle.bson_raw.specs.Split.{AreDocuments, documents_bytes}
use Rattle.wire_msg.specs.Messages.{AreSequences, IsSequence, Sequence}
use Rattle.wire_msg.specs.Spelling.{sequence_section, sequences_bytes}
use Rattle.byte_views.specs.declared.build.built.Built.{Built}
use Rattle.byte_views.specs.Placing.{placed}
use Rattle.byte_views.specs.Sequences.{HoldsSequences, IsSequencePut, is_put, no_name, out_of_range, section_of, too_large, too_short, with_sequence}
use Rattle.byte_views.proofs.Building.{refusal_is}

pub length_section : (identifier documents : List ℕ) → length (section_of identifier documents) ≡ length identifier + length documents + 6
length_section identifier documents =
    let size = 4 + length (cstring identifier) + length documents in
    omega (arith, length-append (little size) (cstring identifier ++ documents), length-append (cstring identifier) documents, length-append identifier (0 ∷ []))

-- the parts of a section, one behind the other
pub section_parts : (four identifier documents : List ℕ) (size : ℕ) → four ≡ little size → size ≡ length identifier + length documents + 5
    → (1 ∷ []) ++ (four ++ (identifier ++ ((0 ∷ []) ++ documents))) ≡ section_of identifier documents
section_parts four identifier documents size is size-is =
    let n : size ≡ 4 + length (cstring identifier) + length documents = omega (arith, size-is, length-append identifier (0 ∷ [])) in
    ap (λ (x : List ℕ). 1 ∷ (x ++ (identifier ++ (0 ∷ documents)))) is
    ∙ ap (λ (x : List ℕ). (1 ∷ little size) ++ x) (sym (append_assoc identifier (0 ∷ []) documents))
    ∙ ap (λ (k : ℕ). 1 ∷ (little k ++ (cstring identifier ++ documents))) n

bytes_of_more : (qs : List Sequence) (q : Sequence) → sequences_bytes (qs ++ q ∷ []) ≡ sequences_bytes qs ++ sequence_section q
bytes_of_more [] q = append-nil (sequence_section q)
bytes_of_more (r ∷ qs) q = ap (λ (x : List ℕ). sequence_section r ++ x) (bytes_of_more qs q) ∙ sym (append_assoc (sequence_section r) (sequences_bytes qs) (sequence_section q))

one_more : (qs : List Sequence) (q : Sequence) → AreSequences qs → IsSequence q → AreSequences (qs ++ q ∷ [])
one_more [] q fits is = (is, tt)
one_more (r ∷ qs) q fits is = (fits.0, one_more qs q fits.1 is)

section_is : (identifier documents : List ℕ) (ts : List Tree) → documents ≡ documents_bytes ts → section_of identifier documents ≡ sequence_section (record { identifier = identifier; documents = ts })
unfolding sequence_section
section_is identifier documents ts is = ap (λ (x : List ℕ). section_of identifier x) is

front_of_placed : (room part : List ℕ) (end : ℕ) → end + length part ≤ length room → take (end + length part) (placed end part room) ≡ take end room ++ part
front_of_placed room part end le =
    let front = take end room in let rest = drop (end + length part) room in
    let size : length (front ++ part) ≡ end + length part = omega (arith, length-append front part, length-take-le end room (omega (arith, le))) in
    ap (λ (x : List ℕ). take (end + length part) x) (sym (append_assoc front part rest)) ∙ ap (λ (n : ℕ). take n ((front ++ part) ++ rest)) (sym size) ∙ take-append_seam (front ++ part) rest

-- the sequences, and one more behind them
pub holds_more : (room new : List ℕ) (end after : ℕ) (identifier documents : List ℕ) (qs : List Sequence) (ts : List Tree) (w : Built) → IsSequencePut room end identifier documents new after w
    → HoldsSequences room end qs → AreDocuments ts → documents ≡ documents_bytes ts → w.refusal ≡ 0 → HoldsSequences new after (with_sequence qs identifier ts)
holds_more room new end after identifier documents qs ts w (is_put named within short told new-is after-is) holds fit is none =
    let q : Sequence = record { identifier = identifier; documents = ts } in let part = section_of identifier documents in
    let size : length part ≡ length identifier + length documents + 6 = length_section identifier documents in
    let same : length documents ≡ length (documents_bytes ts) = ap length is in
    let is-one : IsSequence q = record { identifier = named; documents = fit; short = omega (arith, short, size, same, length-append identifier (0 ∷ [])) } in (
      one_more qs q holds.0 is-one,
      ap (λ (x : List ℕ). take after x) new-is ∙ ap (λ (n : ℕ). take n (placed end part room)) after-is ∙ front_of_placed room part end within ∙ ap (λ (x : List ℕ). x ++ part) holds.1
          ∙ ap (λ (x : List ℕ). sequences_bytes qs ++ x) (section_is identifier documents ts is) ∙ sym (bytes_of_more qs q),
    )
holds_more room new end after identifier documents qs ts w (too_short named less short within told new-is after-is) holds fit is none = absurd (omega (arith, none, ap (λ (x : Built). x.refusal) told))
holds_more room new end after identifier documents qs ts w (too_large named within long told new-is after-is) holds fit is none = absurd (refusal_is w 252 told none)
holds_more room new end after identifier documents qs ts w (no_name within unnamed told new-is after-is) holds fit is none = absurd (refusal_is w 1 told none)
holds_more room new end after identifier documents qs ts w (out_of_range outside told new-is after-is) holds fit is none = absurd (refusal_is w 254 told none)
