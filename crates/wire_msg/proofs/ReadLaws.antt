-- A document or a document sequence that is known to stand in front, as its bytes are read.
use Rattle.std.proofs.Common.{◌≡◌, ◌≢◌, ℕ, ◌+◌, ◌-◌, ◌<◌, ◌≤◌, List, [], ◌∷◌, ◌++◌, length, take, drop, Ok, refl, sym, ap, subst, ◌∙◌, append_assoc, arith, length-append}
use Rattle.std.specs.Prelude.{slice_range, is_ok, IsOk}
use Rattle.std.specs.Int.{w32, from_le_bytes}
use Rattle.std.proofs.lemmas.List.{take_at, drop_at, drop-drop}
use Rattle.std.proofs.lemmas.Nat.{from_le_bytes-to_le_bytes_4}
use Rattle.std.proofs.lemmas.Grind.{not_there}
use Rattle.bson_elem.specs.declared.fault.BsonCause.{BsonCause}
use Rattle.bson_elem.specs.Trees.{Tree}
use Rattle.bson_elem.specs.Spelling.{little, cstring, document, elements, Spells}
use Rattle.bson_elem.specs.Checks.{cstring_at}
use Rattle.bson_elem.proofs.Lemmas.{cstring_again, length-document, ok_is}
use Rattle.bson_raw.specs.Spelled.{IsSpelled}
use Rattle.bson_raw.specs.Split.{AreDocuments, documents_bytes}
use Rattle.wire_msg.specs.Messages.{Sequence, sequence_size, IsSequence, AreSequences}
use Rattle.wire_msg.specs.Spelling.{sequence_section, sequences_bytes}
use Rattle.wire_msg.specs.Checks.{HasDocuments, HasSequences}
use Rattle.wire_msg.specs.Known.{BeginsSequence, ArePartsOf}

-- the number that stands in front
number_front : (front rest : List ℕ) (n : ℕ) → length front ≡ 4 → from_le_bytes w32 front ≡ n → from_le_bytes w32 (take 4 (front ++ rest)) ≡ n
number_front front rest n four is = ap (from_le_bytes w32) (take_at front rest 4 four) ∙ is

-- ---- documents

pub record DocumentRead (bytes : List ℕ) (t : Tree) (rest : List ℕ) : Type 0 where
  pub least : 5 ≤ length bytes
  pub len : from_le_bytes w32 (take 4 bytes) ≡ length (document (elements t))
  pub within : length (document (elements t)) ≤ length bytes
  pub front : take (length (document (elements t))) bytes ≡ document (elements t)
  pub after : drop (length (document (elements t))) bytes ≡ rest

pub document_read : (bytes : List ℕ) (t : Tree) (rest : List ℕ) → Spells t (document (elements t)) → bytes ≡ document (elements t) ++ rest → DocumentRead bytes t rest
document_read bytes t rest s is =
    let d : List ℕ = document (elements t) in
    let size : length d ≡ length (elements t) + 5 = length-document (elements t) in
    let sum : length bytes ≡ length d + length rest = ap length is ∙ length-append d rest in
    let regrouped : bytes ≡ little (length (elements t) + 5) ++ ((elements t ++ 0 ∷ []) ++ rest) = is ∙ append_assoc (little (length (elements t) + 5)) (elements t ++ 0 ∷ []) rest in
    record {
      least = omega (arith, size, sum);
      len = ap (λ (x : List ℕ). from_le_bytes w32 (take 4 x)) regrouped ∙ number_front (little (length (elements t) + 5)) ((elements t ++ 0 ∷ []) ++ rest) (length (elements t) + 5) refl (from_le_bytes-to_le_bytes_4 (length (elements t) + 5) (omega (arith, size, s.short))) ∙ sym size;
      within = omega (arith, sum);
      front = ap (take (length d)) is ∙ take_at d rest (length d) refl;
      after = ap (drop (length d)) is ∙ drop_at d rest (length d) refl;
    }

-- ---- document sequences

pub record SequenceRead (bytes : List ℕ) (q : Sequence) (rest : List ℕ) : Type 0 where
  pub least : 5 ≤ sequence_size q
  pub within : 1 + sequence_size q ≤ length bytes
  pub size : from_le_bytes w32 (take 4 (drop 1 bytes)) ≡ sequence_size q
  pub read : cstring_at (slice_range bytes 5 (1 + sequence_size q)) ≡ Ok (q.identifier, documents_bytes q.documents)
  pub after : drop (1 + sequence_size q) bytes ≡ rest

pub length-sequence : (q : Sequence) → length (sequence_section q) ≡ 1 + sequence_size q
unfolding sequence_section
length-sequence q = omega (arith, length-append (little (sequence_size q)) (cstring q.identifier ++ documents_bytes q.documents), length-append (cstring q.identifier) (documents_bytes q.documents))

pub sequence_read : (bytes : List ℕ) (q : Sequence) (rest : List ℕ) → IsSequence q → bytes ≡ sequence_section q ++ rest → SequenceRead bytes q rest
unfolding sequence_section
sequence_read bytes q rest fits is =
    let n : ℕ = sequence_size q in
    let inner : List ℕ = cstring q.identifier ++ documents_bytes q.documents in
    let id : length (cstring q.identifier) ≡ length q.identifier + 1 = length-append q.identifier (0 ∷ []) in
    let room : length inner ≡ n - 4 = omega (arith, length-append (cstring q.identifier) (documents_bytes q.documents)) in
    let sum : length bytes ≡ 1 + n + length rest = ap length is ∙ length-append (sequence_section q) rest ∙ ap (λ (k : ℕ). k + length rest) (length-sequence q) in
    let low : 5 ≤ n = omega (arith, id) in
    let behind : drop 1 bytes ≡ little n ++ (inner ++ rest) = ap (drop 1) is ∙ append_assoc (little n) inner rest in
    let section : drop 5 bytes ≡ inner ++ rest = sym (drop-drop 4 1 bytes) ∙ ap (drop 4) behind ∙ drop_at (little n) (inner ++ rest) 4 refl in
    let count : (1 + n) - 5 ≡ n - 4 = omega arith in
    record {
      least = low;
      within = omega (arith, sum);
      size = ap (λ (x : List ℕ). from_le_bytes w32 (take 4 x)) behind ∙ number_front (little n) (inner ++ rest) n refl (from_le_bytes-to_le_bytes_4 n (omega (arith, fits.short)));
      read = ap (λ (k : ℕ). cstring_at (take k (drop 5 bytes))) count ∙ ap (λ (x : List ℕ). cstring_at (take (n - 4) x)) section ∙ ap cstring_at (take_at inner rest (n - 4) room) ∙ cstring_again q.identifier (documents_bytes q.documents) fits.identifier;
      after = ap (drop (1 + n)) is ∙ drop_at (sequence_section q) rest (1 + n) (length-sequence q);
    }

-- ---- what is known

documents_cases : (bytes : List ℕ) (ts : List Tree) → AreDocuments ts → bytes ≡ documents_bytes ts → length bytes ≢ 0 → (t : Tree) × (us : List Tree) × (ts ≡ t ∷ us) × DocumentRead bytes t (documents_bytes us)
documents_cases bytes [] fits is some = absurd (some (ap length is))
documents_cases bytes (t ∷ us) fits is some = (t, us, refl, document_read bytes t (documents_bytes us) fits.0 is)

pub known_document : (bytes : List ℕ) → length bytes ≢ 0 → ∥ HasDocuments bytes ∥₁ → (5 ≤ from_le_bytes w32 (take 4 bytes)) × (from_le_bytes w32 (take 4 bytes) ≤ length bytes)
known_document bytes some known =
    let least : from_le_bytes w32 (take 4 bytes) < 5 → ⊥ = λ lt. not_there known (λ h. let r = documents_cases bytes h.0 h.1 h.2 some in omega (arith, lt, r.3.len, length-document (elements r.0))) in
    let most : length bytes < from_le_bytes w32 (take 4 bytes) → ⊥ = λ lt. not_there known (λ h. let r = documents_cases bytes h.0 h.1 h.2 some in omega (arith, lt, r.3.len, r.3.within)) in
    (omega (arith, least), omega (arith, most))

-- the first document and the others, by where the first ends
pub document_parts : (bytes : List ℕ) (n : ℕ) (t : Tree) (ts : List Tree) → n ≡ from_le_bytes w32 (take 4 bytes) → AreDocuments (t ∷ ts) → bytes ≡ documents_bytes (t ∷ ts) → Spells t (take n bytes) × (drop n bytes ≡ documents_bytes ts)
document_parts bytes n t ts n-is fits is =
    let r = document_read bytes t (documents_bytes ts) fits.0 is in
    let len : n ≡ length (document (elements t)) = n-is ∙ r.len in
    (subst (Spells t) (sym (ap (λ (k : ℕ). take k bytes) len ∙ r.front)) fits.0, ap (λ (k : ℕ). drop k bytes) len ∙ r.after)

pub document_known : (bytes : List ℕ) (n : ℕ) → n ≡ from_le_bytes w32 (take 4 bytes) → length bytes ≢ 0 → HasDocuments bytes → IsSpelled (take n bytes) × HasDocuments (drop n bytes)
document_known bytes n n-is some h =
    let r = documents_cases bytes h.0 h.1 h.2 some in
    let fits : AreDocuments (r.0 ∷ r.1) = subst AreDocuments r.2 h.1 in
    let p = document_parts bytes n r.0 r.1 n-is fits (h.2 ∙ ap documents_bytes r.2) in
    ((r.0, p.0), (r.1, fits.1, p.1))

pub known_sequence : (bytes : List ℕ) → ∥ BeginsSequence bytes ∥₁ → (6 ≤ length bytes) × (5 ≤ from_le_bytes w32 (take 4 (drop 1 bytes))) × (1 + from_le_bytes w32 (take 4 (drop 1 bytes)) ≤ length bytes)
known_sequence bytes known =
    let size : ℕ = from_le_bytes w32 (take 4 (drop 1 bytes)) in
    let long : length bytes < 6 → ⊥ = λ lt. not_there known (λ h. let r = sequence_read bytes h.0 h.1 h.2 h.3 in omega (arith, lt, r.least, r.within)) in
    let least : size < 5 → ⊥ = λ lt. not_there known (λ h. let r = sequence_read bytes h.0 h.1 h.2 h.3 in omega (arith, lt, r.least, r.size)) in
    let most : length bytes < 1 + size → ⊥ = λ lt. not_there known (λ h. let r = sequence_read bytes h.0 h.1 h.2 h.3 in omega (arith, lt, r.within, r.size)) in
    (omega (arith, long), omega (arith, least), omega (arith, most))

pub begins : (bytes : List ℕ) → length bytes ≢ 0 → HasSequences bytes → (q : Sequence) × (qs : List Sequence) × AreSequences (q ∷ qs) × (bytes ≡ sequences_bytes (q ∷ qs))
begins bytes some ([], fits, is) = absurd (some (ap length is))
begins bytes some (q ∷ qs, fits, is) = (q, qs, fits, is)

pub begins_sequence : (bytes : List ℕ) → length bytes ≢ 0 → HasSequences bytes → BeginsSequence bytes
begins_sequence bytes some h = let b = begins bytes some h in (b.0, sequences_bytes b.1, b.2.0, b.3)

pub identifier_read : (bytes : List ℕ) (size : ℕ) → ((q : Sequence) (rest : List ℕ) → IsSequence q → bytes ≡ sequence_section q ++ rest → size ≡ sequence_size q) → BeginsSequence bytes → IsOk (cstring_at (slice_range bytes 5 (1 + size)))
identifier_read bytes size is h =
    let r = sequence_read bytes h.0 h.1 h.2 h.3 in
    ap is_ok (ap (λ (n : ℕ). cstring_at (slice_range bytes 5 (1 + n))) (is h.0 h.1 h.2 h.3) ∙ r.read)

-- what was read of the first sequence
pub sequence_parts : (bytes name docs : List ℕ) (size : ℕ) (q : Sequence) (qs : List Sequence) → ((q : Sequence) (rest : List ℕ) → IsSequence q → bytes ≡ sequence_section q ++ rest → size ≡ sequence_size q) → cstring_at (slice_range bytes 5 (1 + size)) ≡ Ok (name, docs) → AreSequences (q ∷ qs) → bytes ≡ sequences_bytes (q ∷ qs) → ArePartsOf name docs (drop (1 + size) bytes) q qs
sequence_parts bytes name docs size q qs is read fits whole =
    let r = sequence_read bytes q (sequences_bytes qs) fits.0 whole in
    let n : size ≡ sequence_size q = is q (sequences_bytes qs) fits.0 whole in
    let same = ok_is {E = BsonCause} (name, docs) (q.identifier, documents_bytes q.documents) (sym read ∙ ap (λ (k : ℕ). cstring_at (slice_range bytes 5 (1 + k))) n ∙ r.read) in
    (ap (λ (x : List ℕ × List ℕ). x.0) same, ap (λ (x : List ℕ × List ℕ). x.1) same, ap (λ (k : ℕ). drop (1 + k) bytes) n ∙ r.after)

pub sequence_known : (bytes name docs rest : List ℕ) → length bytes ≢ 0 → ((q : Sequence) (qs : List Sequence) → AreSequences (q ∷ qs) → bytes ≡ sequences_bytes (q ∷ qs) → ArePartsOf name docs rest q qs) → HasSequences bytes → HasDocuments docs × HasSequences rest
sequence_known bytes name docs rest some parts h =
    let b = begins bytes some h in
    let p = parts b.0 b.1 b.2 b.3 in
    ((b.0.documents, b.2.0.documents, p.1), (b.1, b.2.1, p.2))

pub long_document : (bytes : List ℕ) → length bytes ≢ 0 → ∥ HasDocuments bytes ∥₁ → 4 ≤ length bytes
long_document bytes some known =
    let no : length bytes < 4 → ⊥ = λ lt. not_there known (λ h. let r = documents_cases bytes h.0 h.1 h.2 some in omega (arith, lt, r.3.least)) in
    omega (arith, no)
