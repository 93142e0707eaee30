-- A value that is lent, and the pairs that it is one of.
use Rattle.std.proofs.Common.{◌≡◌, ℕ, ◌-◌, ◌<◌, ◌≤◌, List, ◌∷◌, ◌++◌, length, ap, arith, length-append}
use Rattle.std.proofs.lemmas.Grind.{not_there}
use Rattle.bson_elem.specs.declared.kinds.Kind.{Kind}
use Rattle.bson_elem.specs.Kinds.{byte_of}
use Rattle.bson_elem.specs.Trees.{Beside, Tree}
use Rattle.bson_elem.specs.Spelling.{cstring, inner_bytes, document, elements, Spells}
use Rattle.bson_raw.specs.declared.value.RawBson.{RawBson}
use Rattle.bson_raw.specs.declared.value.RawBson.TheVariants as values
use Rattle.bson_raw.specs.Left.{LeftIs, HasLeft}
use Rattle.bson_raw.specs.Pairs.{TreeValue, leaf_value, document_value, with_first}
use Rattle.bson_raw.specs.RawBson.{Shows, held_len}
use Rattle.bson_raw.proofs.Walks.{inner_len, room_size}

pub some_pair : (name : List ℕ) (v : TreeValue) (ps : Tree) → 0 < length (elements (with_first name v ps))
some_pair name (leaf_value k leaf) ps = omega arith
some_pair name (document_value k b inner) ps = omega arith

-- the document of a pair is shorter than the pairs
document_lt : (name : List ℕ) (k : Kind) (b : Beside) (inner ps : Tree) → length (document (elements inner)) < length (elements (with_first name (document_value k b inner) ps))
document_lt name k b inner ps = omega (arith, inner_len b (elements inner), length-append (byte_of k ∷ (cstring name ++ inner_bytes b (elements inner))) (elements ps), length-append (cstring name) (inner_bytes b (elements inner)))

pub inner_lt : (name : List ℕ) (v : TreeValue) (ps : Tree) (k : Kind) (b : Beside) (bytes : List ℕ) → (inner : Tree) × (v ≡ document_value k b inner) × Spells inner bytes → length bytes < length (elements (with_first name v ps))
inner_lt name v ps k b bytes shown =
    omega (arith, document_lt name k b shown.0 ps, ap length shown.2.parts, ap (λ (x : TreeValue). length (elements (with_first name x ps))) shown.1)

-- a document in a value is shorter than the pairs of which the value is the first
pub held_lt : (value : RawBson) (name : List ℕ) (v : TreeValue) (ps : Tree) → Shows value v → held_len value < length (elements (with_first name v ps))
held_lt (values.Document d) name v ps shown = inner_lt name v ps _ _ _ shown
held_lt (values.Array a) name v ps shown = inner_lt name v ps _ _ _ shown
held_lt (values.CodeWithScope s d) name v ps shown = inner_lt name v ps _ _ _ shown
held_lt _ name v ps shown = some_pair name v ps

-- and so it is shorter than the bytes
pub held_short : (bytes : List ℕ) (at : ℕ) (value : RawBson) (t : Tree) (name : List ℕ) (v : TreeValue) (ps : Tree) → LeftIs bytes at t → t ≡ with_first name v ps → Shows value v → held_len value < length bytes
held_short bytes at value t name v ps left is shown =
    omega (arith, held_lt value name v ps shown, ap (λ (x : Tree). length (elements x)) is, ap length left.1, room_size bytes at (length bytes - 1) (omega arith))

pub held_short_of : (bytes : List ℕ) (at : ℕ) (value : RawBson) → ∥ HasLeft bytes at ∥₁ → ((t : Tree) → LeftIs bytes at t → (name : List ℕ) × (v : TreeValue) × (ps : Tree) × (t ≡ with_first name v ps) × Shows value v) → held_len value < length bytes
held_short_of bytes at value has first =
    let no : length bytes ≤ held_len value → ⊥ = λ le. not_there has (λ h. let f = first h.2.0 h.2.1 in omega (arith, le, held_short bytes at value h.2.0 f.0 f.1 f.2 h.2.1 f.3 f.4)) in
    omega (arith, no)
