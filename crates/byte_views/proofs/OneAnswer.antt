-- There is at most one answer for given bytes.
use Rattle.std.proofs.Common.{◌≡◌, ◌+◌, [], ℕ, List, Option, Some, length, sym, ap, subst, ◌∙◌, append-nil, arith}
use Rattle.bson_elem.specs.declared.fault.BsonFault.{BsonFault}
use Rattle.bson_elem.specs.Trees.{Tree}
use Rattle.bson_elem.specs.Spelling.{IsBytes, Spells, elements}
use Rattle.bson_elem.specs.Checks.{fault}
use Rattle.bson_elem.proofs.Lemmas.{IsBytes-after, document_takes, length-document, no_front, one_front, spelled_read}
use Rattle.bson_raw.specs.Split.{documents_bytes, DocumentSplit}
use Rattle.bson_raw.specs.Spelled.{IsLengthOf, WholeFault, unlike, as_front}
use Rattle.bson_raw.proofs.Lemmas.{same_split}
use Rattle.byte_views.specs.declared.documents.DocumentsCheck.{DocumentsCheck}
use Rattle.byte_views.specs.declared.fault.FirstFault.{FirstFault}
use Rattle.byte_views.specs.declared.walk.DocumentsWalk.{DocumentsWalk}
use Rattle.byte_views.specs.Fault.{first_fault}
use Rattle.byte_views.specs.Documents.{IsDocumentCheck, is_document, has_fault, EndsAs, is_nothing, is_bad, documents_check, IsDocumentsCheck}
use Rattle.byte_views.specs.Walk.{documents_walk, IsDocumentsWalk}

-- ---- exactly one document

is_length : (bytes : List ℕ) (t : Tree) → IsBytes bytes → Spells t bytes → IsLengthOf bytes
is_length bytes t fits s room =
    omega (arith, (document_takes 0 0 bytes (elements t, []) fits (spelled_read bytes t bytes [] s (sym (append-nil bytes)))).2, ap length s.parts, length-document (elements t))

no_whole_fault : (bytes : List ℕ) (t : Tree) (f : BsonFault) → IsBytes bytes → Spells t bytes → WholeFault bytes f → ⊥
no_whole_fault bytes t f fits s (unlike differs is) = differs (is_length bytes t fits s)
no_whole_fault bytes t f fits s (as_front like front) = no_front bytes t bytes [] f fits s (sym (append-nil bytes)) front

one_whole_fault : (bytes : List ℕ) (f g : BsonFault) → IsBytes bytes → WholeFault bytes f → WholeFault bytes g → f ≡ g
one_whole_fault bytes f g fits (unlike differs is) (unlike differs' is') = is ∙ sym is'
one_whole_fault bytes f g fits (unlike differs is) (as_front like front) = absurd (differs like)
one_whole_fault bytes f g fits (as_front like front) (unlike differs is) = absurd (differs like)
one_whole_fault bytes f g fits (as_front like front) (as_front like' front') = one_front bytes f g fits front front'

pub one_document_check : (bytes : List ℕ) (a b : FirstFault) → IsBytes bytes → IsDocumentCheck bytes a → IsDocumentCheck bytes b → a ≡ b
one_document_check bytes a b fits (is_document t s is) (is_document u s' is') = is ∙ sym is'
one_document_check bytes a b fits (is_document t s is) (has_fault f bad is') = absurd (no_whole_fault bytes t f fits s bad)
one_document_check bytes a b fits (has_fault f bad is) (is_document t s is') = absurd (no_whole_fault bytes t f fits s bad)
one_document_check bytes a b fits (has_fault f bad is) (has_fault g bad' is') = is ∙ ap (λ (x : BsonFault). first_fault (Some x)) (one_whole_fault bytes f g fits bad bad') ∙ sym is'

-- ---- documents one after another

one_end : (offset : ℕ) (rest : List ℕ) (x y : Option BsonFault) → IsBytes rest → EndsAs offset rest x → EndsAs offset rest y → x ≡ y
one_end offset rest x y fits (is_nothing none is) (is_nothing none' is') = is ∙ sym is'
one_end offset rest x y fits (is_nothing none is) (is_bad f some bad is') = absurd (some none)
one_end offset rest x y fits (is_bad f some bad is) (is_nothing none is') = absurd (some none)
one_end offset rest x y fits (is_bad f some bad is) (is_bad g some' bad' is') = is ∙ ap (λ (z : BsonFault). Some (fault (offset + z.at) z.cause)) (one_front rest f g fits bad bad') ∙ sym is'

-- the documents, and the first fault after them
one_told : (bytes : List ℕ) (ts us : List Tree) (rest after : List ℕ) (x y : Option BsonFault) → IsBytes bytes → DocumentSplit bytes ts rest → DocumentSplit bytes us after
    → EndsAs (length (documents_bytes ts)) rest x → EndsAs (length (documents_bytes us)) after y → (ts ≡ us) × (x ≡ y)
one_told bytes ts us rest after x y fits s s' ends ends' =
    let same = same_split bytes ts us rest after fits s s' in
    let other = subst (λ (z : List ℕ). EndsAs (length (documents_bytes ts)) z y) (sym same.1) (subst (λ (z : List Tree). EndsAs (length (documents_bytes z)) after y) (sym same.0) ends') in
    (same.0, one_end (length (documents_bytes ts)) rest x y (IsBytes-after s.joined rest (subst IsBytes s.parts fits)) ends other)

pub one_documents_check : (bytes : List ℕ) (a b : DocumentsCheck) → IsBytes bytes → IsDocumentsCheck bytes a → IsDocumentsCheck bytes b → a ≡ b
one_documents_check bytes a b fits r s =
    let same = one_told bytes r.0 s.0 r.1 s.1 r.3 s.3 fits r.2 s.2 r.4 s.4 in
    r.5 ∙ ap (λ (x : List Tree). documents_check x r.3) same.0 ∙ ap (documents_check s.0) same.1 ∙ sym s.5

pub one_documents_walk : (bytes : List ℕ) (a b : DocumentsWalk) → IsBytes bytes → IsDocumentsWalk bytes a → IsDocumentsWalk bytes b → a ≡ b
one_documents_walk bytes a b fits r s =
    let same = one_told bytes r.0 s.0 r.1 s.1 r.3 s.3 fits r.2 s.2 r.4 s.4 in
    r.5 ∙ ap (λ (x : List Tree). documents_walk x r.3) same.0 ∙ ap (documents_walk s.0) same.1 ∙ sym s.5
