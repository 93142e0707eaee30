-- Where a document ends that an element holds.
use Rattle.std.proofs.Common.{◌≡◌, ℕ, ◌+◌, ◌-◌, ◌<◌, ◌≤◌, List, ◌∷◌, ◌++◌, Some, length, drop, ap, arith, length-append, length-take, length-drop}
use Rattle.std.proofs.lemmas.Grind.{not_there}
use Rattle.bson_elem.specs.Kinds.{byte_of}
use Rattle.bson_elem.specs.Spelling.{cstring, document, elements, inner_bytes}
use Rattle.bson_elem.specs.Trees.{Tree}
use Rattle.bson_raw.proofs.Lemmas.{inner_len}
use Rattle.bson_raw.specs.Left.{HasLeft, LeftIs}
use Rattle.bson_raw.specs.Pairs.{TreeValue, leaf_value, document_value, with_first}
use Rattle.bson_text.specs.DumpValues.{IsHeld, held_tree}

-- the document in the first of some pairs is shorter than their bytes without those of the others
held_shorter : (name : List ℕ) (v : TreeValue) (inner others : Tree) → held_tree v ≡ Some inner
    → length (document (elements inner)) + length (elements others) < length (elements (with_first name v others))
held_shorter name (leaf_value k leaf) inner others held = cc
held_shorter name (document_value k b i) inner others held =
    let same : i ≡ inner = cc in
    omega (arith, ap (λ (x : Tree). length (document (elements x))) same, inner_len b (elements i), length-append (byte_of k ∷ (cstring name ++ inner_bytes b (elements i))) (elements others), length-append (cstring name) (inner_bytes b (elements i)))

-- how many bytes the pairs have from an offset on
left_len : (bytes : List ℕ) (at : ℕ) (t : Tree) → LeftIs bytes at t → length (elements t) ≡ length bytes - 1 - at
left_len bytes at t left =
    omega (arith, ap length left.1, length-take (length bytes - 1 - at) (drop at bytes), length-drop at bytes)

-- a document that the first pair holds, and the other pairs, are inside the walked document
pub ends_before : (bytes after d : List ℕ) (at next : ℕ) → ∥ HasLeft bytes at ∥₁ → length after ≡ length bytes
    → ((t : Tree) → LeftIs bytes at t → (name : List ℕ) × (v : TreeValue) × (others : Tree) × (t ≡ with_first name v others) × LeftIs after next others × IsHeld v d)
    → length d + (length after - next) < length bytes
ends_before bytes after d at next has same first =
    let no : length bytes ≤ length d + (length after - next) → ⊥ = λ le. not_there has (λ h.
    let t = h.2.0 in
    let f = first t h.2.1 in
    omega (arith, le, h.0, same, left_len bytes at t h.2.1, left_len after next f.2 f.4, ap (λ (x : Tree). length (elements x)) f.3, held_shorter f.0 f.1 f.5.0 f.2 f.5.1, ap length f.5.2.parts)) in
    omega (arith, no)
