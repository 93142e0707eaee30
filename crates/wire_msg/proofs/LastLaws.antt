-- The last of some document sequences: where it begins, and the walk that finds it.
use Rattle.std.proofs.Common.{◌≡◌, ◌≢◌, ℕ, ◌+◌, ◌<◌, ◌≤◌, List, [], ◌∷◌, ◌++◌, length, drop, refl, sym, ap, ◌∙◌, arith, length-append, length-drop}
use Rattle.std.proofs.lemmas.List.{drop-drop, drop_at}
use Rattle.wire_msg.specs.Messages.{Sequence, sequence_size, IsSequence, AreSequences}
use Rattle.wire_msg.specs.Spelling.{sequence_section, sequences_bytes}
use Rattle.wire_msg.specs.Checks.{HasSequences}
use Rattle.wire_msg.specs.Known.{last_offset, IsLastOffset}
use Rattle.wire_msg.proofs.ReadLaws.{length-sequence}
use Rattle.wire_msg.proofs.Verdicts.{same_sequence}

-- bytes are sequences in one way at most
pub same_sequences : (qs rs : List Sequence) → AreSequences qs → AreSequences rs → sequences_bytes qs ≡ sequences_bytes rs → qs ≡ rs
same_sequences [] [] f g e = refl
same_sequences [] (r ∷ rs) f g e = absurd (omega (arith, ap length e, length-append (sequence_section r) (sequences_bytes rs), length-sequence r))
same_sequences (q ∷ qs) [] f g e = absurd (omega (arith, ap length e, length-append (sequence_section q) (sequences_bytes qs), length-sequence q))
same_sequences (q ∷ qs) (r ∷ rs) f g e =
    let s = same_sequence (sequences_bytes (q ∷ qs)) q r (sequences_bytes qs) (sequences_bytes rs) f.0 g.0 refl e in
    ap (λ (x : Sequence). x ∷ qs) s.0 ∙ ap (λ (x : List Sequence). r ∷ x) (same_sequences qs rs f.1 g.1 s.1)

-- ---- the offset

-- the last of the sequences, and those before it
pub record LastOf (qs : List Sequence) : Type 0 where
  pub before : List Sequence
  pub last : Sequence
  pub parts : qs ≡ before ++ last ∷ []
  pub offset : last_offset qs ≡ length (sequences_bytes before)

last_of : (q : Sequence) (qs : List Sequence) → LastOf (q ∷ qs)
last_of q [] = record { before = []; last = q; parts = refl; offset = refl }
last_of q (r ∷ qs) =
    let l = last_of r qs in
    record {
      before = q ∷ l.before;
      last = l.last;
      parts = ap (λ (x : List Sequence). q ∷ x) l.parts;
      offset = ap (λ (n : ℕ). length (sequence_section q) + n) l.offset ∙ sym (length-append (sequence_section q) (sequences_bytes l.before));
    }

pub last_of_some : (qs : List Sequence) → qs ≢ [] → LastOf qs
last_of_some [] some = absurd (some refl)
last_of_some (q ∷ qs) some = last_of q qs

-- a sequence behind others begins where they end
pub offset_behind : (qs : List Sequence) (q : Sequence) → last_offset (qs ++ q ∷ []) ≡ length (sequences_bytes qs)
offset_behind [] q = refl
offset_behind (p ∷ []) q = omega (arith, length-append (sequence_section p) [])
offset_behind (p ∷ r ∷ qs) q = ap (λ (n : ℕ). length (sequence_section p) + n) (offset_behind (r ∷ qs) q) ∙ sym (length-append (sequence_section p) (sequences_bytes (r ∷ qs)))

-- the offset of the last sequence is known by one reading of the bytes
pub only_offset : (bytes : List ℕ) (qs : List Sequence) (offset : ℕ) → AreSequences qs → bytes ≡ sequences_bytes qs → offset ≡ last_offset qs → IsLastOffset bytes offset
only_offset bytes qs offset fits is at = λ rs fits' is'. at ∙ ap last_offset (same_sequences qs rs fits fits' (sym is ∙ is'))

-- ---- the walk

-- the offset of the last sequence, by the offset of the one before `next` and the sequences from there on
abbrev offset_from : ℕ → ℕ → List Sequence → ℕ
offset_from last next [] = last
offset_from last next (q ∷ qs) = next + last_offset (q ∷ qs)

-- sequences are left from `next` on
pub record IsWalked (bytes : List ℕ) (qs : List Sequence) (last next : ℕ) : Type 0 where
  pub left : List Sequence
  pub fits : AreSequences left
  pub parts : drop next bytes ≡ sequences_bytes left
  pub same : last_offset qs ≡ offset_from last next left

step_offset : (last next size : ℕ) (q : Sequence) (others : List Sequence) → size ≡ sequence_size q → offset_from last next (q ∷ others) ≡ offset_from next (next + (1 + size)) others
step_offset last next size q [] is = omega arith
step_offset last next size q (r ∷ qs) is = omega (arith, is, length-sequence q)

abbrev Sized : List ℕ → ℕ → Type 0
Sized bytes size = (q : Sequence) (rest : List ℕ) → IsSequence q → bytes ≡ sequence_section q ++ rest → size ≡ sequence_size q

walk_cases : (bytes : List ℕ) (qs : List Sequence) (last next size : ℕ) (left : List Sequence) → next < length bytes → Sized (drop next bytes) size → AreSequences left → drop next bytes ≡ sequences_bytes left → last_offset qs ≡ offset_from last next left → IsWalked bytes qs next (next + (1 + size))
walk_cases bytes qs last next size [] lt sized fits is same = absurd (omega (arith, lt, ap length is, length-drop next bytes))
walk_cases bytes qs last next size (q ∷ others) lt sized fits is same =
    let n : size ≡ sequence_size q = sized q (sequences_bytes others) fits.0 is in
    let len : length (sequence_section q) ≡ 1 + size = length-sequence q ∙ ap (λ (k : ℕ). 1 + k) (sym n) in
    let sum : 1 + size + next ≡ next + (1 + size) = omega arith in
    record {
      left = others;
      fits = fits.1;
      parts = sym (drop-drop (1 + size) next bytes) ∙ ap (drop (1 + size)) is ∙ drop_at (sequence_section q) (sequences_bytes others) (1 + size) len;
      same = same ∙ step_offset last next size q others n;
    }

pub walk_more : (bytes : List ℕ) (qs : List Sequence) (last next size : ℕ) → next < length bytes → Sized (drop next bytes) size → IsWalked bytes qs last next → IsWalked bytes qs next (next + (1 + size))
walk_more bytes qs last next size lt sized w = walk_cases bytes qs last next size w.left lt sized w.fits w.parts w.same

no_left : (last next : ℕ) (bytes : List ℕ) (left : List Sequence) → length bytes ≤ next → drop next bytes ≡ sequences_bytes left → offset_from last next left ≡ last
no_left last next bytes [] le is = refl
no_left last next bytes (q ∷ qs) le is = absurd (omega (arith, le, ap length is, length-drop next bytes, length-append (sequence_section q) (sequences_bytes qs), length-sequence q))

pub walk_ends : (bytes : List ℕ) (qs : List Sequence) (last next : ℕ) → length bytes ≤ next → IsWalked bytes qs last next → last ≡ last_offset qs
walk_ends bytes qs last next le w = sym (w.same ∙ no_left last next bytes w.left le w.parts)

pub known_left : (bytes : List ℕ) (qs : List Sequence) (last next : ℕ) → IsWalked bytes qs last next → HasSequences (drop next bytes)
known_left bytes qs last next w = (w.left, w.fits, w.parts)
