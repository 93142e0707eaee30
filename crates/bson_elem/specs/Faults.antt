-- The first fault of bytes that are no document.
use Rattle.std.specs.Prelude.{◌≡◌, ℕ, ◌+◌, List, ◌∷◌, ◌++◌, length, Ok, Err}
use Rattle.bson_elem.specs.declared.fault.BsonFault.{BsonFault}
use Rattle.bson_elem.specs.Trees.{Beside, Tree}
use Rattle.bson_elem.specs.Spelling.{elements, Fits}
use Rattle.bson_elem.specs.Checks.{ElementRead, element_at, opens, document_at}

-- The bytes are whole pairs and then the rest.
pub record Before (depth : ℕ) (bytes : List ℕ) (pairs : Tree) (rest : List ℕ) : Type 0 where
  pub parts : bytes ≡ elements pairs ++ rest
  pub fits : Fits depth pairs

-- The bytes are the elements, from offset p on, of a container of this depth that begins at offset
-- s. This is their first fault: after whole pairs comes an element that fails a check with this
-- fault, or one whose inner document has this fault.
pub data FaultIn : ℕ → ℕ → ℕ → List ℕ → BsonFault → Type 0 where
  at_element :
      {depth s p : ℕ} {bytes : List ℕ} {f : BsonFault} (pairs : Tree) (b : ℕ) (rest : List ℕ)
      → Before depth bytes pairs (b ∷ rest)
      → element_at depth s (p + length (elements pairs)) (b ∷ rest) ≡ Err f
      → FaultIn depth s p bytes f
  in_document : {depth s p : ℕ} {bytes : List ℕ} {f : BsonFault} (pairs : Tree) (rest : List ℕ)
      (e : ElementRead) (q : ℕ) (b : Beside) (body : List ℕ)
      → Before depth bytes pairs rest
      → element_at depth s (p + length (elements pairs)) rest ≡ Ok e
      → e.value ≡ opens q b body
      → FaultIn (depth + 1) q (q + 4) body f
      → FaultIn depth s p bytes f

-- The first fault of bytes that don't begin with a document: of its length or its last byte, else
-- of its elements.
pub data FrontFault : List ℕ → BsonFault → Type 0 where
  of_length : {bytes : List ℕ} {f : BsonFault} → document_at 0 0 bytes ≡ Err f → FrontFault bytes f
  of_elements : {bytes : List ℕ} {f : BsonFault} (body rest : List ℕ)
      → document_at 0 0 bytes ≡ Ok (body, rest) → FaultIn 1 0 4 body f → FrontFault bytes f
