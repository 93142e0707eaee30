-- The sections of some bytes are read in one way: as a body with sequences before it and behind it, or up to one fault.
use Rattle.std.proofs.Common.{◌≡◌, ℕ, ◌+◌, ◌-◌, List, [], ◌∷◌, ◌++◌, length, take, drop, Result, Ok, Err, refl, sym, ap, subst, ◌∙◌, append_assoc, arith, length-append}
use Rattle.std.specs.Prelude.{slice_range}
use Rattle.bson_elem.specs.declared.fault.BsonCause.{BsonCause}
use Rattle.bson_elem.specs.declared.fault.BsonFault.{BsonFault}
use Rattle.bson_elem.specs.Trees.{Tree}
use Rattle.bson_elem.specs.Spelling.{IsBytes, document, elements}
use Rattle.bson_elem.specs.Checks.{cstring_at}
use Rattle.bson_elem.specs.Faults.{FrontFault}
use Rattle.bson_elem.proofs.Lemmas.{IsBytes-after, IsBytes-drop, IsBytes-take, cstring_takes, no_front, ok_is, one_front, same_front}
use Rattle.wire_msg.specs.declared.fault.MsgFault.{MsgFault}
use Rattle.wire_msg.specs.declared.fault.MsgCause.TheVariants as causes
use Rattle.wire_msg.specs.Causes.{msg_fault}
use Rattle.wire_msg.specs.Header.{number_at}
use Rattle.bson_raw.specs.Split.{AreDocuments, documents_bytes}
use Rattle.wire_msg.specs.Messages.{Sequence, sequence_size, IsSequence}
use Rattle.wire_msg.specs.Spelling.{sequence_section}
use Rattle.wire_msg.specs.Faults.{IsSized, sequence_rest, DocumentsFault, SequenceFault, of_size, of_identifier, of_documents}
use Rattle.wire_msg.proofs.ReadLaws.{SequenceRead, sequence_read}

-- ---- documents back to back

pub same_documents : (ts us : List Tree) → AreDocuments ts → AreDocuments us → documents_bytes ts ≡ documents_bytes us → ts ≡ us
same_documents [] [] f g e = refl
same_documents [] (u ∷ us) f g e = absurd (omega (arith, ap length e))
same_documents (t ∷ ts) [] f g e = absurd (omega (arith, ap length e))
same_documents (t ∷ ts) (u ∷ us) f g e =
    let s = same_front (documents_bytes (t ∷ ts)) t u (document (elements t)) (document (elements u)) (documents_bytes ts) (documents_bytes us) f.0 g.0 refl e in
    ap (λ (x : Tree). x ∷ ts) s.0 ∙ ap (λ (x : List Tree). u ∷ x) (same_documents ts us f.1 g.1 s.1)

-- whole documents, and then one with a fault
abbrev Failing : List Tree → List ℕ → BsonFault → Type 0
Failing ts rest g = AreDocuments ts × FrontFault rest g

documents_fail_once : (bytes : List ℕ) (ts us : List Tree) (b : ℕ) (rest : List ℕ) (b' : ℕ) (rest' : List ℕ) (g g' : BsonFault) → IsBytes bytes → bytes ≡ documents_bytes ts ++ b ∷ rest → bytes ≡ documents_bytes us ++ b' ∷ rest' → Failing ts (b ∷ rest) g → Failing us (b' ∷ rest') g' → (ts ≡ us) × (g ≡ g')
documents_fail_once bytes [] [] b rest b' rest' g g' fits is is' f f' = (refl, one_front bytes g g' fits (subst (λ (x : List ℕ). FrontFault x g) (sym is) f.1) (subst (λ (x : List ℕ). FrontFault x g') (sym is') f'.1))
documents_fail_once bytes [] (u ∷ us) b rest b' rest' g g' fits is is' f f' =
    absurd (no_front bytes u (document (elements u)) (documents_bytes us ++ b' ∷ rest') g fits f'.0.0 (is' ∙ append_assoc (document (elements u)) (documents_bytes us) (b' ∷ rest')) (subst (λ (x : List ℕ). FrontFault x g) (sym is) f.1))
documents_fail_once bytes (t ∷ ts) [] b rest b' rest' g g' fits is is' f f' =
    absurd (no_front bytes t (document (elements t)) (documents_bytes ts ++ b ∷ rest) g' fits f.0.0 (is ∙ append_assoc (document (elements t)) (documents_bytes ts) (b ∷ rest)) (subst (λ (x : List ℕ). FrontFault x g') (sym is') f'.1))
documents_fail_once bytes (t ∷ ts) (u ∷ us) b rest b' rest' g g' fits is is' f f' =
    let a = is ∙ append_assoc (document (elements t)) (documents_bytes ts) (b ∷ rest) in
    let a' = is' ∙ append_assoc (document (elements u)) (documents_bytes us) (b' ∷ rest') in
    let s = same_front bytes t u (document (elements t)) (document (elements u)) (documents_bytes ts ++ b ∷ rest) (documents_bytes us ++ b' ∷ rest') f.0.0 f'.0.0 a a' in
    let after : IsBytes (documents_bytes ts ++ b ∷ rest) = IsBytes-after (document (elements t)) (documents_bytes ts ++ b ∷ rest) (subst IsBytes a fits) in
    let r = documents_fail_once (documents_bytes ts ++ b ∷ rest) ts us b rest b' rest' g g' after refl s.1 (f.0.1, f.1) (f'.0.1, f'.1) in
    (ap (λ (x : Tree). x ∷ ts) s.0 ∙ ap (λ (x : List Tree). u ∷ x) r.0, r.1)

documents_do_not_fail : (bytes : List ℕ) (ts us : List Tree) (b : ℕ) (rest : List ℕ) (g : BsonFault) → IsBytes bytes → bytes ≡ documents_bytes ts → AreDocuments ts → bytes ≡ documents_bytes us ++ b ∷ rest → Failing us (b ∷ rest) g → ⊥
documents_do_not_fail bytes [] us b rest g fits is all is' f = omega (arith, ap length is, ap length is', length-append (documents_bytes us) (b ∷ rest))
documents_do_not_fail bytes (t ∷ ts) [] b rest g fits is all is' f = no_front bytes t (document (elements t)) (documents_bytes ts) g fits all.0 is (subst (λ (x : List ℕ). FrontFault x g) (sym is') f.1)
documents_do_not_fail bytes (t ∷ ts) (u ∷ us) b rest g fits is all is' f =
    let a' = is' ∙ append_assoc (document (elements u)) (documents_bytes us) (b ∷ rest) in
    let s = same_front bytes t u (document (elements t)) (document (elements u)) (documents_bytes ts) (documents_bytes us ++ b ∷ rest) all.0 f.0.0 is a' in
    let after : IsBytes (documents_bytes ts) = IsBytes-after (document (elements t)) (documents_bytes ts) (subst IsBytes is fits) in
    documents_do_not_fail (documents_bytes ts) ts us b rest g after refl all.1 s.1 (f.0.1, f.1)

-- ---- one sequence

abbrev sequence : List ℕ → List Tree → Sequence
sequence name ts = record { identifier = name; documents = ts }

same_parts : (a b : List ℕ) (ts us : List Tree) → a ≡ b → ts ≡ us → sequence a ts ≡ sequence b us
same_parts a b ts us e f = rw (e, f) refl

-- two sequences at the front of the same bytes are one
pub same_sequence : (bytes : List ℕ) (q r : Sequence) (rest rest' : List ℕ) → IsSequence q → IsSequence r → bytes ≡ sequence_section q ++ rest → bytes ≡ sequence_section r ++ rest' → (q ≡ r) × (rest ≡ rest')
same_sequence bytes q r rest rest' f g is is' =
    let a = sequence_read bytes q rest f is in
    let b = sequence_read bytes r rest' g is' in
    let n : sequence_size q ≡ sequence_size r = sym a.size ∙ b.size in
    let same = ok_is {E = BsonCause} (q.identifier, documents_bytes q.documents) (r.identifier, documents_bytes r.documents) (sym a.read ∙ ap (λ (k : ℕ). cstring_at (slice_range bytes 5 (1 + k))) n ∙ b.read) in
    let name : q.identifier ≡ r.identifier = ap (λ (x : List ℕ × List ℕ). x.0) same in
    let docs : q.documents ≡ r.documents = same_documents q.documents r.documents f.documents g.documents (ap (λ (x : List ℕ × List ℕ). x.1) same) in
    (same_parts q.identifier r.identifier q.documents r.documents name docs, sym a.after ∙ ap (λ (k : ℕ). drop (1 + k) bytes) n ∙ b.after)

-- a sequence's bytes behind the kind byte
abbrev behind : List ℕ → List ℕ
behind bytes = 1 ∷ bytes

sized_front : (bytes : List ℕ) (q : Sequence) (rest : List ℕ) → SequenceRead (1 ∷ bytes) q rest → IsSized bytes
sized_front bytes q rest a = record { four = omega (arith, a.within, a.least); least = omega (arith, a.size, a.least); most = omega (arith, a.size, a.within) }

rest_front : (bytes : List ℕ) (q : Sequence) (rest : List ℕ) → SequenceRead (1 ∷ bytes) q rest → cstring_at (sequence_rest bytes) ≡ Ok (q.identifier, documents_bytes q.documents)
rest_front bytes q rest a =
    let n : number_at bytes 0 - 4 ≡ (1 + sequence_size q) - 5 = omega (arith, a.size) in
    ap (λ (k : ℕ). cstring_at (take k (drop 4 bytes))) n ∙ a.read

abbrev read_ok : List ℕ → List ℕ → Result (List ℕ × List ℕ) BsonCause
read_ok name rest = Ok (name, rest)

abbrev read_err : BsonCause → Result (List ℕ × List ℕ) BsonCause
read_err c = Err c

rest_bytes : (bytes name rest : List ℕ) → IsBytes bytes → cstring_at (sequence_rest bytes) ≡ Ok (name, rest) → IsBytes rest
rest_bytes bytes name rest fits e = (cstring_takes (sequence_rest bytes) (name, rest) (IsBytes-take (number_at bytes 0 - 4) (drop 4 bytes) (IsBytes-drop 4 bytes fits)) e).0.rest_fits

-- a sequence has no fault
pub sequence_is_sound : (p : ℕ) (bytes : List ℕ) (f : MsgFault) (q : Sequence) (rest : List ℕ) → IsBytes bytes → IsSequence q → 1 ∷ bytes ≡ sequence_section q ++ rest → SequenceFault p bytes f → ⊥
sequence_is_sound p bytes f q rest fits is whole (of_size unsized e) = unsized (sized_front bytes q rest (sequence_read (1 ∷ bytes) q rest is whole))
sequence_is_sound p bytes f q rest fits is whole (of_identifier c sized read e) =
    let same : read_err c ≡ read_ok q.identifier (documents_bytes q.documents) = sym read ∙ rest_front bytes q rest (sequence_read (1 ∷ bytes) q rest is whole) in
    absurd cc
sequence_is_sound p bytes f q rest fits is whole (of_documents name after sized read d) =
    let same = ok_is {E = BsonCause} (name, after) (q.identifier, documents_bytes q.documents) (sym read ∙ rest_front bytes q rest (sequence_read (1 ∷ bytes) q rest is whole)) in
    documents_do_not_fail after q.documents d.documents d.first d.rest d.inner (rest_bytes bytes name after fits read) (ap (λ (x : List ℕ × List ℕ). x.1) same) is.documents d.parts (d.fits, d.front)

same_offset : (p p' : ℕ) (ts us : List Tree) (g g' : BsonFault) → p ≡ p' → ts ≡ us → g ≡ g' → msg_fault (p + length (documents_bytes ts)) (causes.Document g) ≡ msg_fault (p' + length (documents_bytes us)) (causes.Document g')
same_offset p p' ts us g g' a b c = rw (a, b, c) refl

documents_fault_once : (p p' : ℕ) (bytes : List ℕ) (f g : MsgFault) → IsBytes bytes → p ≡ p' → DocumentsFault p bytes f → DocumentsFault p' bytes g → f ≡ g
documents_fault_once p p' bytes f g fits same d e =
    let r = documents_fail_once bytes d.documents e.documents d.first d.rest e.first e.rest d.inner e.inner fits d.parts e.parts (d.fits, d.front) (e.fits, e.front) in
    d.is ∙ same_offset p p' d.documents e.documents d.inner e.inner same r.0 r.1 ∙ sym e.is

-- and one fault at most
pub sequence_fails_once : (p : ℕ) (bytes : List ℕ) (f g : MsgFault) → IsBytes bytes → SequenceFault p bytes f → SequenceFault p bytes g → f ≡ g
sequence_fails_once p bytes f g fits (of_size unsized e) (of_size unsized' e') = e ∙ sym e'
sequence_fails_once p bytes f g fits (of_size unsized e) (of_identifier c sized read e') = absurd (unsized sized)
sequence_fails_once p bytes f g fits (of_size unsized e) (of_documents name rest sized read d) = absurd (unsized sized)
sequence_fails_once p bytes f g fits (of_identifier c sized read e) (of_size unsized e') = absurd (unsized sized)
sequence_fails_once p bytes f g fits (of_identifier c sized read e) (of_identifier c' sized' read' e') = e ∙ sym e'
sequence_fails_once p bytes f g fits (of_identifier c sized read e) (of_documents name rest sized' read' d) = let same : read_err c ≡ read_ok name rest = sym read ∙ read' in absurd cc
sequence_fails_once p bytes f g fits (of_documents name rest sized read d) (of_size unsized e') = absurd (unsized sized)
sequence_fails_once p bytes f g fits (of_documents name rest sized read d) (of_identifier c sized' read' e') = let same : read_err c ≡ read_ok name rest = sym read' ∙ read in absurd cc
sequence_fails_once p bytes f g fits (of_documents name rest sized read d) (of_documents name' rest' sized' read' d') =
    let same = ok_is {E = BsonCause} (name, rest) (name', rest') (sym read ∙ read') in
    let offset : p + 6 + length name ≡ p + 6 + length name' = ap (λ (x : List ℕ × List ℕ). p + 6 + length x.0) same in
    documents_fault_once (p + 6 + length name) (p + 6 + length name') rest f g (rest_bytes bytes name rest fits read) offset d (subst (λ (x : List ℕ). DocumentsFault (p + 6 + length name') x g) (sym (ap (λ (x : List ℕ × List ℕ). x.1) same)) d')
