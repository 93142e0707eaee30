-- The document at the front of some bytes: there is a tree or a fault, and never both.
use Rattle.std.proofs.Common.{◌≡◌, ℕ, ◌+◌, List, [], ◌∷◌, ◌++◌, length, Result, Ok, Err, sym, ap, subst, ◌∙◌, append_assoc, arith}
use Rattle.bson_elem.specs.declared.fault.BsonFault.{BsonFault}
use Rattle.bson_elem.specs.Trees.{Tree}
use Rattle.bson_elem.specs.Spelling.{IsBytes, little, document, elements, Spells}
use Rattle.bson_elem.specs.Checks.{document_at}
use Rattle.bson_elem.specs.Faults.{FaultIn, FrontFault, of_length, of_elements}
use Rattle.bson_elem.proofs.FieldLaws.{ok_is}
use Rattle.bson_elem.proofs.ContainerLaws.{length-document, document_takes, document_again}
use Rattle.bson_elem.proofs.TreeLaws as trees
use Rattle.bson_elem.proofs.TreeLaws.{no_both, IsBytes-middle}

abbrev read_ok : List ℕ × List ℕ → Result (List ℕ × List ℕ) BsonFault
read_ok x = Ok x

abbrev read_err : BsonFault → Result (List ℕ × List ℕ) BsonFault
read_err f = Err f

-- if a document consists of bytes, so do its elements
body_bytes : (bytes body rest : List ℕ) → IsBytes bytes → document_at 0 0 bytes ≡ Ok (body, rest) → IsBytes body
body_bytes bytes body rest fits read =
    let t = document_takes 0 0 bytes (body, rest) fits read in
    IsBytes-middle (little (length body + 5)) body ((0 ∷ []) ++ rest) (subst IsBytes (t.0.parts ∙ append_assoc (little (length body + 5)) (body ++ 0 ∷ []) rest ∙ ap (λ (x : List ℕ). little (length body + 5) ++ x) (append_assoc body (0 ∷ []) rest)) fits)

-- the spelling of a tree is read as a document with the elements of the tree
pub spelled_read : (bytes : List ℕ) (t : Tree) (b rest : List ℕ) → Spells t b → bytes ≡ b ++ rest → document_at 0 0 bytes ≡ Ok (elements t, rest)
spelled_read bytes t b rest s is =
    let whole : bytes ≡ document (elements t) ++ rest = is ∙ ap (λ (x : List ℕ). x ++ rest) s.parts in
    let size : length b ≡ length (elements t) + 5 = ap length s.parts ∙ length-document (elements t) in
    ap (document_at 0 0) whole ∙ document_again 0 0 (elements t) rest (omega (arith, size, s.short))

-- two trees spelled at the front of the same bytes are equal, and so is what follows them
pub same_front : (bytes : List ℕ) (t u : Tree) (a b rest rest' : List ℕ) → Spells t a → Spells u b → bytes ≡ a ++ rest → bytes ≡ b ++ rest' → (t ≡ u) × (rest ≡ rest')
same_front bytes t u a b rest rest' s s' is is' =
    let same = ok_is {E = BsonFault} (elements t, rest) (elements u, rest') (sym (spelled_read bytes t a rest s is) ∙ spelled_read bytes u b rest' s' is') in
    (trees.one_tree t u 1 s.fits s'.fits (ap (λ (x : List ℕ × List ℕ). x.0) same), ap (λ (x : List ℕ × List ℕ). x.1) same)

pub one_front : (bytes : List ℕ) (f g : BsonFault) → IsBytes bytes → FrontFault bytes f → FrontFault bytes g → f ≡ g
one_front bytes f g fits (of_length a) (of_length b) = let same : read_err f ≡ read_err g = sym a ∙ b in cc
one_front bytes f g fits (of_length a) (of_elements body rest b chain) = let same : read_err f ≡ read_ok (body, rest) = sym a ∙ b in absurd cc
one_front bytes f g fits (of_elements body rest a chain) (of_length b) = let same : read_ok (body, rest) ≡ read_err g = sym a ∙ b in absurd cc
one_front bytes f g fits (of_elements body rest a chain) (of_elements body' rest' b chain') =
    let same : read_ok (body, rest) ≡ read_ok (body', rest') = sym a ∙ b in
    let bodies : body ≡ body' = ap (λ (x : List ℕ × List ℕ). x.0) (ok_is {E = BsonFault} (body, rest) (body', rest') same) in
    trees.one_fault (body_bytes bytes body rest fits a) chain (subst (λ (x : List ℕ). FaultIn 1 0 4 x g) (sym bodies) chain')

pub no_front : (bytes : List ℕ) (t : Tree) (b rest : List ℕ) (f : BsonFault) → IsBytes bytes → Spells t b → bytes ≡ b ++ rest → FrontFault bytes f → ⊥
no_front bytes t b rest f fits s is (of_length a) = let same : read_err f ≡ read_ok (elements t, rest) = sym a ∙ spelled_read bytes t b rest s is in absurd cc
no_front bytes t b rest f fits s is (of_elements body rest' a chain) =
    let same : read_ok (body, rest') ≡ read_ok (elements t, rest) = sym a ∙ spelled_read bytes t b rest s is in
    let bodies : body ≡ elements t = ap (λ (x : List ℕ × List ℕ). x.0) (ok_is {E = BsonFault} (body, rest') (elements t, rest) same) in
    no_both t (body_bytes bytes body rest' fits a) s.fits bodies chain
