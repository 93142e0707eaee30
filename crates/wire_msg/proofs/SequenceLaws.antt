-- Document sequences, one after another.
use Rattle.std.proofs.Common.{◌≡◌, ℕ, ◌+◌, ◌-◌, ◌^◌, ◌<◌, ◌≤◌, List, [], ◌∷◌, ◌++◌, length, get_or, take, drop, Ok, refl, sym, ap, subst, ◌∙◌, append_assoc, arith, length-append, length-take, length-drop}
use Rattle.std.specs.Prelude.{slice_range}
use Rattle.std.proofs.lemmas.List.{append-nil, take-append-drop, drop_more, drop-drop}
use Rattle.std.proofs.lemmas.Nat.{le_bytes_4}
use Rattle.std.proofs.Math.Seq.{take-add}
use Rattle.bson_elem.specs.Spelling.{IsBytes, little, cstring}
use Rattle.bson_elem.specs.Checks.{cstring_at}
use Rattle.bson_elem.proofs.Lemmas.{IsBytes-drop, IsBytes-take, cstring_takes}
use Rattle.wire_msg.specs.declared.fault.MsgFault.{MsgFault}
use Rattle.wire_msg.specs.Header.{number_at}
use Rattle.bson_raw.specs.Split.{documents_bytes}
use Rattle.wire_msg.specs.Messages.{Sequence, sequence_size, AreSequences}
use Rattle.wire_msg.specs.Spelling.{sequence_section, sequences_bytes}
use Rattle.wire_msg.specs.Faults.{IsSized, SequenceFault}
use Rattle.wire_msg.specs.Checks.{HasDocuments, IsSequenceAt, IsBadRun}

-- ---- one sequence

pub sequence_at : (bytes : List ℕ) (size : ℕ) (name docs : List ℕ) → IsBytes bytes → IsSized bytes → size ≡ number_at bytes 0 → length bytes < 2 ^ 31 → cstring_at (slice_range bytes 4 size) ≡ Ok (name, docs) → HasDocuments docs → IsSequenceAt bytes size
unfolding sequence_section
sequence_at bytes size name docs fits sized is short read has =
    let section : List ℕ = slice_range bytes 4 size in
    let low : 5 ≤ size = omega (arith, sized.least, is) in
    let high : size ≤ length bytes = omega (arith, sized.most, is) in
    let t = cstring_takes section (name, docs) (IsBytes-take (size - 4) (drop 4 bytes) (IsBytes-drop 4 bytes fits)) read in
    let q : Sequence = record { identifier = name; documents = has.0 } in
    let parts : section ≡ cstring name ++ documents_bytes has.0 = t.0.parts ∙ ap (λ (x : List ℕ). cstring name ++ x) has.2 in
    let room : length section ≡ size - 4 = omega (arith, length-take (size - 4) (drop 4 bytes), length-drop 4 bytes, high) in
    let size-is : sequence_size q ≡ size = omega (arith, room, low, ap length parts, length-append (cstring name) (documents_bytes has.0)) in
    let front : little size ≡ take 4 bytes = le_bytes_4 (take 4 bytes) size (omega (arith, length-take 4 bytes, sized.four)) (IsBytes-take 4 bytes fits) is in
    let back : 4 + (size - 4) ≡ size = omega (arith, low) in
    let split : take size bytes ≡ take 4 bytes ++ section = ap (λ (n : ℕ). take n bytes) (sym back) ∙ take-add 4 (size - 4) bytes in
    record {
      sequence = q;
      fits = record { identifier = t.1; documents = has.1; short = omega (arith, size-is, high, short) };
      within = high;
      parts = ap (λ (n : ℕ). 1 ∷ (little n ++ (cstring name ++ documents_bytes has.0))) size-is ∙ ap (λ (x : List ℕ). 1 ∷ (x ++ (cstring name ++ documents_bytes has.0))) front ∙ ap (λ (x : List ℕ). 1 ∷ (take 4 bytes ++ x)) (sym parts) ∙ ap (λ (x : List ℕ). 1 ∷ x) (sym split);
    }

-- ---- a run of them

pub sequences-append : (qs rs : List Sequence) → sequences_bytes (qs ++ rs) ≡ sequences_bytes qs ++ sequences_bytes rs
sequences-append [] rs = refl
sequences-append (q ∷ qs) rs = ap (λ (x : List ℕ). sequence_section q ++ x) (sequences-append qs rs) ∙ sym (append_assoc (sequence_section q) (sequences_bytes qs) (sequences_bytes rs))

pub AreSequences-append : (qs rs : List Sequence) → AreSequences qs → AreSequences rs → AreSequences (qs ++ rs)
AreSequences-append [] rs f g = g
AreSequences-append (q ∷ qs) rs f g = (f.0, AreSequences-append qs rs f.1 g)

-- sequences stand from an offset up to another
pub record RunSoFar (bytes : List ℕ) (start at : ℕ) : Type 0 where
  pub sequences : List Sequence
  pub fits : AreSequences sequences
  pub forwards : start ≤ at
  pub within : at ≤ length bytes
  pub parts : drop start bytes ≡ sequences_bytes sequences ++ drop at bytes

run_offset : (bytes : List ℕ) (start at : ℕ) → (r : RunSoFar bytes start at) → start + length (sequences_bytes r.sequences) ≡ at
run_offset bytes start at r = omega (arith, r.within, r.forwards, ap length r.parts, length-append (sequences_bytes r.sequences) (drop at bytes), length-drop start bytes, length-drop at bytes)

cell : (bytes : List ℕ) (at : ℕ) → at < length bytes → get_or bytes at 0 ≡ 1 → drop at bytes ≡ 1 ∷ drop (at + 1) bytes
cell bytes at lt is = drop_more bytes at 0 lt ∙ ap (λ (b : ℕ). b ∷ drop (at + 1) bytes) is

pub run_more : (bytes : List ℕ) (start at size : ℕ) → RunSoFar bytes start at → at < length bytes → get_or bytes at 0 ≡ 1 → IsSequenceAt (drop (at + 1) bytes) size → RunSoFar bytes start (at + (1 + size))
run_more bytes start at size r lt is s =
    let q : Sequence = s.sequence in
    let after : List ℕ = drop (at + 1) bytes in
    let joined : drop at bytes ≡ sequence_section q ++ drop size after = cell bytes at lt is ∙ ap (λ (x : List ℕ). 1 ∷ x) (sym (take-append-drop size after)) ∙ ap (λ (x : List ℕ). x ++ drop size after) (sym s.parts) in
    let far : drop size after ≡ drop (at + (1 + size)) bytes = drop-drop size (at + 1) bytes ∙ ap (λ (n : ℕ). drop n bytes) (let e : at + 1 + size ≡ at + (1 + size) = omega arith in e) in
    let single : sequences_bytes (q ∷ []) ≡ sequence_section q = append-nil (sequence_section q) in
    let more : sequences_bytes (r.sequences ++ q ∷ []) ≡ sequences_bytes r.sequences ++ sequence_section q = sequences-append r.sequences (q ∷ []) ∙ ap (λ (x : List ℕ). sequences_bytes r.sequences ++ x) single in
    record {
      sequences = r.sequences ++ q ∷ [];
      fits = AreSequences-append r.sequences (q ∷ []) r.fits (s.fits, tt);
      forwards = omega (arith, r.forwards);
      within = omega (arith, s.within, lt, length-drop (at + 1) bytes);
      parts = r.parts ∙ ap (λ (x : List ℕ). sequences_bytes r.sequences ++ x) (joined ∙ ap (λ (x : List ℕ). sequence_section q ++ x) far) ∙ sym (append_assoc (sequences_bytes r.sequences) (sequence_section q) (drop (at + (1 + size)) bytes)) ∙ ap (λ (x : List ℕ). x ++ drop (at + (1 + size)) bytes) (sym more);
    }

pub run_fails : (bytes : List ℕ) (start at : ℕ) (f : MsgFault) → RunSoFar bytes start at → at < length bytes → get_or bytes at 0 ≡ 1 → SequenceFault at (drop (at + 1) bytes) f → IsBadRun bytes start f
run_fails bytes start at f r lt is fault = record {
  sequences = r.sequences;
  fits = r.fits;
  rest = drop (at + 1) bytes;
  parts = r.parts ∙ ap (λ (x : List ℕ). sequences_bytes r.sequences ++ x) (cell bytes at lt is);
  fault = subst (λ (p : ℕ). SequenceFault p (drop (at + 1) bytes) f) (sym (run_offset bytes start at r)) fault;
}
