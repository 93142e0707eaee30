-- The sections of a message: a body, and sequences before it and behind it.
use Rattle.std.proofs.Common.{◌≡◌, ◌≢◌, ℕ, ◌+◌, ◌-◌, ◌<◌, ◌≤◌, List, [], ◌∷◌, ◌++◌, length, get_or, drop, refl, sym, ap, subst, ◌∙◌, append_assoc, arith, length-append, length-drop}
use Rattle.std.proofs.lemmas.List.{append-nil, drop_more, drop-drop, drop_at, drop_all}
use Rattle.bson_elem.specs.declared.fault.BsonFault.{BsonFault}
use Rattle.bson_elem.specs.Trees.{Tree}
use Rattle.bson_elem.specs.Spelling.{document, elements, Spells}
use Rattle.bson_elem.specs.Faults.{FrontFault}
use Rattle.bson_raw.specs.Spelled.{IsSpelled}
use Rattle.wire_msg.specs.declared.fault.MsgFault.{MsgFault}
use Rattle.wire_msg.specs.declared.fault.MsgCause.TheVariants as causes
use Rattle.wire_msg.specs.Causes.{msg_fault}
use Rattle.wire_msg.specs.Messages.{Sequence, AreSequences}
use Rattle.wire_msg.specs.Spelling.{body_section, sequences_bytes, sections_bytes}
use Rattle.wire_msg.specs.Faults.{Seen, no_body_yet, body_seen, AreSeen, SectionFault, two_bodies, of_body, of_sequence, of_kind, SectionsFault, at_section, without_body}
use Rattle.wire_msg.specs.Checks.{IsNoSequence, IsRun, IsBadRun, HasSections}
use Rattle.bson_raw.proofs.Lemmas.{is_document}

pub length-body : (t : Tree) → length (body_section t) ≡ 1 + length (document (elements t))
unfolding body_section
length-body t = omega arith

-- ---- before the body

offset : (bytes : List ℕ) (start at : ℕ) → (r : IsRun bytes start at) → start + length (sequences_bytes r.sequences) ≡ at
offset bytes start at r = omega (arith, r.within, r.forwards, ap length r.parts, length-append (sequences_bytes r.sequences) (drop at bytes), length-drop start bytes, length-drop at bytes)

here : (bytes : List ℕ) (at : ℕ) → at < length bytes → drop at bytes ≡ get_or bytes at 0 ∷ drop (at + 1) bytes
here bytes at lt = drop_more bytes at 0 lt

pub kind_here : (bytes : List ℕ) (at : ℕ) → at < length bytes → IsNoSequence (drop at bytes) → get_or bytes at 0 ≢ 1
kind_here bytes at lt stops = subst IsNoSequence (here bytes at lt) stops

pub bad_run_before : (bytes : List ℕ) (f : MsgFault) → IsBadRun bytes 20 f → SectionsFault (drop 20 bytes) f
bad_run_before bytes f r = at_section (no_body_yet r.sequences) 1 r.rest r.parts r.fits (of_sequence refl r.fault)

pub no_body_at : (bytes : List ℕ) (at : ℕ) → IsRun bytes 20 at → at ≡ length bytes → SectionsFault (drop 20 bytes) (msg_fault at causes.NoBody)
no_body_at bytes at r is =
    let none : drop at bytes ≡ [] = drop_all at bytes (omega (arith, is)) in
    let size : at ≡ 20 + length (drop 20 bytes) = omega (arith, is, r.forwards, length-drop 20 bytes) in
    without_body r.sequences (r.parts ∙ ap (λ (x : List ℕ). sequences_bytes r.sequences ++ x) none ∙ append-nil (sequences_bytes r.sequences)) r.fits (ap (λ (n : ℕ). msg_fault n causes.NoBody) size)

-- a section fails a check that stands where the run ended
fault_before : (bytes : List ℕ) (at : ℕ) (f : MsgFault) → (r : IsRun bytes 20 at) → at < length bytes → SectionFault (no_body_yet r.sequences) at (get_or bytes at 0) (drop (at + 1) bytes) f → SectionsFault (drop 20 bytes) f
fault_before bytes at f r lt fault =
    at_section (no_body_yet r.sequences) (get_or bytes at 0) (drop (at + 1) bytes) (r.parts ∙ ap (λ (x : List ℕ). sequences_bytes r.sequences ++ x) (here bytes at lt)) r.fits
    (subst (λ (p : ℕ). SectionFault (no_body_yet r.sequences) p (get_or bytes at 0) (drop (at + 1) bytes) f) (sym (offset bytes 20 at r)) fault)

pub kind_before : (bytes : List ℕ) (at : ℕ) → IsRun bytes 20 at → at < length bytes → get_or bytes at 0 ≢ 0 → SectionsFault (drop 20 bytes) (msg_fault at causes.SectionKind)
kind_before bytes at r lt ne = fault_before bytes at (msg_fault at causes.SectionKind) r lt (of_kind ne (kind_here bytes at lt r.stops) refl)

pub body_fails : (bytes : List ℕ) (at : ℕ) (inner : BsonFault) → IsRun bytes 20 at → at < length bytes → get_or bytes at 0 ≡ 0 → FrontFault (drop (at + 1) bytes) inner → SectionsFault (drop 20 bytes) (msg_fault (at + 1) (causes.Document inner))
body_fails bytes at inner r lt zero_is front = fault_before bytes at (msg_fault (at + 1) (causes.Document inner)) r lt (of_body inner zero_is front refl)

-- ---- behind the body

-- Sequences stand from offset 20 on, a body behind them, and what is left begins at the next offset.
pub record BodyAt (bytes : List ℕ) (at : ℕ) (d : List ℕ) (next : ℕ) : Type 0 where
  pub before : List Sequence
  pub before_fit : AreSequences before
  pub body : Tree
  pub spelled : Spells body d
  pub parts : drop 20 bytes ≡ sequences_bytes before ++ (body_section body ++ drop next bytes)
  pub at_is : at ≡ 20 + length (sequences_bytes before)
  pub next_is : next ≡ at + 1 + length d
  pub within : next ≤ length bytes

pub body_at : (bytes : List ℕ) (at : ℕ) (d rest : List ℕ) → IsRun bytes 20 at → at < length bytes → get_or bytes at 0 ≡ 0 → drop (at + 1) bytes ≡ d ++ rest → IsSpelled d → BodyAt bytes at d (length bytes - length rest)
unfolding body_section
body_at bytes at d rest r lt zero_is is s =
    let sum : length bytes - (at + 1) ≡ length d + length rest = sym (length-drop (at + 1) bytes) ∙ ap length is ∙ length-append d rest in
    let next : ℕ = length bytes - length rest in
    let next-is : next ≡ at + 1 + length d = omega (arith, sum, lt) in
    let left : drop next bytes ≡ rest = ap (λ (n : ℕ). drop n bytes) next-is ∙ sym (drop-drop (length d) (at + 1) bytes) ∙ ap (drop (length d)) is ∙ drop_at d rest (length d) refl in
    let section : drop at bytes ≡ (0 ∷ document (elements s.0)) ++ drop next bytes =
    here bytes at lt ∙ ap (λ (b : ℕ). b ∷ drop (at + 1) bytes) zero_is ∙ ap (λ (x : List ℕ). 0 ∷ x) is ∙ ap (λ (x : List ℕ). 0 ∷ (x ++ rest)) s.1.parts ∙ ap (λ (x : List ℕ). 0 ∷ (document (elements s.0) ++ x)) (sym left) in
    record {
      before = r.sequences;
      before_fit = r.fits;
      body = s.0;
      spelled = s.1;
      parts = r.parts ∙ ap (λ (x : List ℕ). sequences_bytes r.sequences ++ x) section;
      at_is = sym (offset bytes 20 at r);
      next_is = next-is;
      within = omega arith;
    }

-- with the sequences that stand behind the body
seen_parts : (bytes : List ℕ) (at next : ℕ) (d : List ℕ) (b : BodyAt bytes at d next) (qs : List Sequence) (x : List ℕ) → drop next bytes ≡ sequences_bytes qs ++ x → drop 20 bytes ≡ sections_bytes b.before b.body qs ++ x
seen_parts bytes at next d b qs x is =
    b.parts ∙ ap (λ (y : List ℕ). sequences_bytes b.before ++ (body_section b.body ++ y)) is
    ∙ ap (λ (y : List ℕ). sequences_bytes b.before ++ y) (sym (append_assoc (body_section b.body) (sequences_bytes qs) x))
    ∙ sym (append_assoc (sequences_bytes b.before) (body_section b.body ++ sequences_bytes qs) x)

seen_offset : (bytes : List ℕ) (at next : ℕ) (d : List ℕ) (b : BodyAt bytes at d next) (qs : List Sequence) → 20 + length (sections_bytes b.before b.body qs) ≡ next + length (sequences_bytes qs)
seen_offset bytes at next d b qs =
    omega (arith, b.at_is, b.next_is, ap length b.spelled.parts, length-body b.body, length-append (sequences_bytes b.before) (body_section b.body ++ sequences_bytes qs), length-append (body_section b.body) (sequences_bytes qs))

seen_fit : (bytes : List ℕ) (at next : ℕ) (d : List ℕ) (b : BodyAt bytes at d next) (qs : List Sequence) → AreSequences qs → AreSeen (body_seen b.before b.body qs)
seen_fit bytes at next d b qs fits = (b.before_fit, is_document b.body d b.spelled, fits)

pub bad_run_after : (bytes : List ℕ) (at next : ℕ) (d : List ℕ) (f : MsgFault) → BodyAt bytes at d next → IsBadRun bytes next f → SectionsFault (drop 20 bytes) f
bad_run_after bytes at next d f b r =
    let seen : Seen = body_seen b.before b.body r.sequences in
    at_section seen 1 r.rest (seen_parts bytes at next d b r.sequences (1 ∷ r.rest) r.parts) (seen_fit bytes at next d b r.sequences r.fits)
    (subst (λ (p : ℕ). SectionFault seen p 1 r.rest f) (sym (seen_offset bytes at next d b r.sequences)) (of_sequence refl r.fault))

pub split : (bytes : List ℕ) (at next end : ℕ) (d : List ℕ) → BodyAt bytes at d next → IsRun bytes next end → end ≡ length bytes → HasSections bytes at d next
split bytes at next end d b r is =
    let none : drop end bytes ≡ [] = drop_all end bytes (omega (arith, is)) in
    record {
      before = b.before;
      body = b.body;
      after = r.sequences;
      before_fit = b.before_fit;
      spelled = b.spelled;
      after_fit = r.fits;
      parts = seen_parts bytes at next d b r.sequences [] (r.parts ∙ ap (λ (x : List ℕ). sequences_bytes r.sequences ++ x) none) ∙ append-nil (sections_bytes b.before b.body r.sequences);
      at_is = b.at_is;
      next_is = b.next_is;
      within = offset bytes next end r ∙ is;
    }

fault_behind : (bytes : List ℕ) (at next end : ℕ) (d : List ℕ) (f : MsgFault) → (b : BodyAt bytes at d next) → (r : IsRun bytes next end) → end < length bytes → SectionFault (body_seen b.before b.body r.sequences) end (get_or bytes end 0) (drop (end + 1) bytes) f → SectionsFault (drop 20 bytes) f
fault_behind bytes at next end d f b r lt fault =
    let seen : Seen = body_seen b.before b.body r.sequences in
    at_section seen (get_or bytes end 0) (drop (end + 1) bytes) (seen_parts bytes at next d b r.sequences (get_or bytes end 0 ∷ drop (end + 1) bytes) (r.parts ∙ ap (λ (x : List ℕ). sequences_bytes r.sequences ++ x) (here bytes end lt))) (seen_fit bytes at next d b r.sequences r.fits)
    (subst (λ (p : ℕ). SectionFault seen p (get_or bytes end 0) (drop (end + 1) bytes) f) (sym (seen_offset bytes at next d b r.sequences ∙ offset bytes next end r)) fault)

pub second_body : (bytes : List ℕ) (at next end : ℕ) (d : List ℕ) → BodyAt bytes at d next → IsRun bytes next end → end < length bytes → get_or bytes end 0 ≡ 0 → SectionsFault (drop 20 bytes) (msg_fault end causes.TwoBodies)
second_body bytes at next end d b r lt zero_is = fault_behind bytes at next end d (msg_fault end causes.TwoBodies) b r lt (two_bodies zero_is refl)

pub kind_after : (bytes : List ℕ) (at next end : ℕ) (d : List ℕ) → BodyAt bytes at d next → IsRun bytes next end → end < length bytes → get_or bytes end 0 ≢ 0 → SectionsFault (drop 20 bytes) (msg_fault end causes.SectionKind)
kind_after bytes at next end d b r lt ne = fault_behind bytes at next end d (msg_fault end causes.SectionKind) b r lt (of_kind ne (kind_here bytes end lt r.stops) refl)
