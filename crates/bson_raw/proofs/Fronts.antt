-- The document at the front of some bytes.
use Rattle.std.proofs.Common.{◌≡◌, ℕ, ◌+◌, ◌-◌, ◌<◌, ◌≤◌, Bool, false, List, [], ◌++◌, length, take, drop, Ok, sym, ap, ◌∙◌, arith}
use Rattle.std.specs.Prelude.{slice_range}
use Rattle.std.proofs.lemmas.Grind.{not_there}
use Rattle.std.proofs.lemmas.List.{append-nil, append_cancel_right, length-take, length-drop}
use Rattle.bson_elem.specs.declared.fault.BsonFault.{BsonFault}
use Rattle.bson_elem.specs.Trees.{Tree}
use Rattle.bson_elem.specs.Spelling.{IsBytes, document, elements, Spells}
use Rattle.bson_elem.specs.Checks.{document_at}
use Rattle.bson_elem.specs.Documents.{elements_of}
use Rattle.bson_elem.specs.Faults.{FaultIn, FrontFault}
use Rattle.bson_elem.proofs.Lemmas.{IsBytes-drop, IsBytes-take, document_takes, length-document, no_both, no_front, ok_is, one_tree, spelled_read}
use Rattle.bson_raw.specs.Naming.{is_plain}
use Rattle.bson_raw.specs.Checks.{IsTree}
use Rattle.bson_raw.specs.Spelled.{IsSpelled, FrontIs, IsLengthOf, WholeFault, unlike, as_front}
use Rattle.bson_raw.proofs.Walks.{all_left}

-- the whole is the document of its body
whole_is : (bytes whole rest : List ℕ) → IsBytes bytes → document_at 0 0 bytes ≡ Ok (elements_of whole, rest) → whole ++ rest ≡ bytes → whole ≡ document (elements_of whole)
whole_is bytes whole rest fits read split =
    append_cancel_right whole (document (elements_of whole)) rest (split ∙ (document_takes 0 0 bytes (elements_of whole, rest) fits read).0.parts)

w_size : (whole : List ℕ) → 5 ≤ length whole → length whole ≡ length (elements_of whole) + 5
w_size whole least = omega (arith, length-take (length whole - 5) (drop 4 whole), length-drop 4 whole)

-- the tree whose elements were checked is the one that the whole spells
pub spelled_by : (bytes whole rest : List ℕ) (canonical : Bool) → IsBytes bytes → document_at 0 0 bytes ≡ Ok (elements_of whole, rest) → whole ++ rest ≡ bytes → 5 ≤ length whole → (tree : IsTree 1 false (slice_range whole 4 (length whole - 1)) canonical) → Spells tree.0 whole
spelled_by bytes whole rest canonical fits read split least tree =
    let d = document_takes 0 0 bytes (elements_of whole, rest) fits read in
    let w = whole_is bytes whole rest fits read split in
    let n : length whole - 5 ≡ (length whole - 1) - 4 = omega arith in
    let body_is : elements_of whole ≡ elements tree.0 = ap (λ (k : ℕ). take k (drop 4 whole)) n ∙ tree.2 in
    record { parts = w ∙ ap document body_is; short = omega (arith, d.1, w_size whole least); fits = tree.1 }

-- whether its names are canonical is the same for every tree that the whole spells
pub named_by : (whole : List ℕ) (canonical : Bool) → IsTree 1 false (slice_range whole 4 (length whole - 1)) canonical → (t : Tree) → Spells t whole → canonical ≡ is_plain false 0 t
named_by whole canonical tree t s = tree.3 ∙ ap (is_plain false 0) (one_tree tree.0 t 1 tree.1 s.fits (sym tree.2 ∙ (all_left whole t s).1))

pub spelled_least : (bytes : List ℕ) → ∥ IsSpelled bytes ∥₁ → 5 ≤ length bytes
spelled_least bytes spelled =
    let no : length bytes < 5 → ⊥ = λ lt. not_there spelled (λ s. omega (arith, lt, ap length s.1.parts, length-document (elements s.0))) in
    omega (arith, no)

-- bytes that are spelled have no fault
pub spelled_no_fault : (bytes : List ℕ) (f : BsonFault) → IsBytes bytes → ∥ IsSpelled bytes ∥₁ → FaultIn 1 0 4 (slice_range bytes 4 (length bytes - 1)) f → ⊥
spelled_no_fault bytes f fits spelled chain =
    not_there spelled (λ s. no_both s.0 (IsBytes-take ((length bytes - 1) - 4) (drop 4 bytes) (IsBytes-drop 4 bytes fits)) s.1.fits (all_left bytes s.0 s.1).1 chain)

pub front_only : (bytes whole rest : List ℕ) (t : Tree) (b after : List ℕ) → IsBytes bytes → FrontIs bytes whole rest → Spells t b → bytes ≡ b ++ after → (whole ≡ b) × (rest ≡ after)
front_only bytes whole rest t b after fits front s is =
    let same = ok_is {E = BsonFault} (elements_of whole, rest) (elements t, after) (sym front.0 ∙ spelled_read bytes t b after s is) in
    let w = whole_is bytes whole rest fits front.0 front.1 in
    (w ∙ ap (λ (x : List ℕ × List ℕ). document x.0) same ∙ sym s.parts, ap (λ (x : List ℕ × List ℕ). x.1) same)

pub front_no_fault : (bytes whole rest : List ℕ) (f : BsonFault) → IsBytes bytes → FrontIs bytes whole rest → FrontFault bytes f → ⊥
front_no_fault bytes whole rest f fits front chain = no_front bytes front.2.0 whole rest f fits front.2.1 (sym front.1) chain

pub body_slice : (whole : List ℕ) → elements_of whole ≡ slice_range whole 4 (length whole - 1)
body_slice whole = ap (λ (k : ℕ). take k (drop 4 whole)) (let n : length whole - 5 ≡ (length whole - 1) - 4 = omega arith in n)

-- ---- all of the bytes

pub whole_only : (bytes : List ℕ) (f : BsonFault) → IsBytes bytes → IsSpelled bytes → FrontFault bytes f → ⊥
whole_only bytes f fits s fault = no_front bytes s.0 bytes [] f fits s.1 (sym (append-nil bytes)) fault

pub fault_front : (bytes : List ℕ) (f : BsonFault) → IsLengthOf bytes → WholeFault bytes f → FrontFault bytes f
fault_front bytes f is (unlike n e) = absurd (n is)
fault_front bytes f is (as_front i e) = e
