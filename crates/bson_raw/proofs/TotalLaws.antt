-- The elements of a document, and their names, texts and data, take no more bytes than it has.
use Rattle.std.proofs.Common.{◌≡◌, ℕ, ◌+◌, ◌≤◌, ◌^◌, ◌==◌, Bool, true, false, List, [], ◌∷◌, ◌++◌, length, refl, ap, arith, length-append, Fits, w64}
use Rattle.std.specs.Prelude.{if◌then◌else◌}
use Rattle.std.proofs.lemmas.Grind.{not_there}
use Rattle.bson_elem.specs.Kinds.{byte_of, Form, form_of}
use Rattle.bson_elem.specs.Trees.{Leaf, raw_value, boolean_value, number_value, timestamp_value, text_value, pointer_value, binary_value, regex_value, Beside, no_code, with_code, Tree, no_pairs, leaf_pair, inner_pair}
use Rattle.bson_elem.specs.Spelling.{little, cstring, string, document, leaf_bytes, inner_bytes, elements, Spells}
use Rattle.bson_elem.proofs.Lemmas.{length-document}
use Rattle.bson_raw.specs.Spelled.{IsSpelled}
use Rattle.bson_raw.specs.Pairs.{TreeValue, leaf_value, document_value, with_first}
use Rattle.bson_raw.specs.Totals.{elements_in, sizes_in, elements_held, sizes_held, leaf_size, beside_size}

-- ---- a value takes the bytes of its texts and data

string_len : (words : List ℕ) → length words + 1 ≤ length (string words)
string_len words = omega (arith, length-append (little (length words + 1)) (cstring words), length-append words (0 ∷ []))

binary_len : (subtype : ℕ) (old : Bool) (bytes : List ℕ) → length bytes
    ≤ length (if old then little (length bytes + 4) ++ (2 ∷ (little (length bytes) ++ bytes)) else little (length bytes) ++ (subtype ∷ bytes))
binary_len subtype true bytes = omega (arith, length-append (little (length bytes + 4)) (2 ∷ (little (length bytes) ++ bytes)), length-append (little (length bytes)) bytes)
binary_len subtype false bytes = omega (arith, length-append (little (length bytes)) (subtype ∷ bytes))

leaf_len : (form : Form) (v : Leaf) → leaf_size v ≤ length (leaf_bytes form v)
leaf_len form (text_value words) = omega (arith, string_len words)
leaf_len form (pointer_value words id) = omega (arith, string_len words, length-append (string words) id)
leaf_len form (binary_value subtype bytes) = binary_len subtype (subtype == 2) bytes
leaf_len form (regex_value pattern options) = omega (arith, length-append (cstring pattern) (cstring options), length-append pattern (0 ∷ []), length-append options (0 ∷ []))
leaf_len form (raw_value bytes) = omega arith
leaf_len form (boolean_value b) = omega arith
leaf_len form (number_value z) = omega arith
leaf_len form (timestamp_value increment seconds) = omega arith

beside_len : (b : Beside) (body : List ℕ) → beside_size b + length body ≤ length (inner_bytes b body)
beside_len no_code body = omega (arith, length-document body)
beside_len (with_code words) body = omega (arith, string_len words, length-document body, length-append (little (length body + length words + 14)) (string words ++ document body), length-append (string words) (document body))

-- ---- each element takes a byte, and the bytes of its name, texts and data

totals_le : (t : Tree) → elements_in t + sizes_in t ≤ length (elements t)
totals_le no_pairs = omega arith
totals_le (leaf_pair name k v ps) =
    omega (arith, totals_le ps, leaf_len (form_of k) v, length-append (byte_of k ∷ (cstring name ++ leaf_bytes (form_of k) v)) (elements ps), length-append (cstring name) (leaf_bytes (form_of k) v), length-append name (0 ∷ []))
totals_le (inner_pair name k b inner ps) =
    omega (arith, totals_le inner, totals_le ps, beside_len b (elements inner), length-append (byte_of k ∷ (cstring name ++ inner_bytes b (elements inner))) (elements ps), length-append (cstring name) (inner_bytes b (elements inner)), length-append name (0 ∷ []))

-- A number that is at most that sum of a document is at most its length,
pub within_document : (n : ℕ) (bytes : List ℕ) → ∥ IsSpelled bytes ∥₁ → ((t : Tree) → Spells t bytes → n ≤ elements_in t + sizes_in t) → n ≤ length bytes
within_document n bytes spelled below =
    let no : length bytes + 1 ≤ n → ⊥ = λ le. not_there spelled (λ s. omega (arith, le, below s.0 s.1, totals_le s.0, ap length s.1.parts, length-document (elements s.0))) in
    omega (arith, no)

-- and fits 64 bits.
pub totals_fit : (n : ℕ) (bytes : List ℕ) → ∥ IsSpelled bytes ∥₁ → ((t : Tree) → Spells t bytes → n ≤ elements_in t + sizes_in t) → Fits w64 n
totals_fit n bytes spelled below =
    let no : 2 ^ 31 ≤ n → ⊥ = λ le. not_there spelled (λ s. omega (arith, le, below s.0 s.1, totals_le s.0, ap length s.1.parts, length-document (elements s.0), s.1.short)) in
    omega (arith, no)

-- ---- the first pair, and the others

pub elements_in-with_first : (name : List ℕ) (v : TreeValue) (ps : Tree) → elements_in (with_first name v ps) ≡ 1 + elements_held v + elements_in ps
elements_in-with_first name (leaf_value k leaf) ps = refl
elements_in-with_first name (document_value k b inner) ps = refl

pub sizes_in-with_first : (name : List ℕ) (v : TreeValue) (ps : Tree) → sizes_in (with_first name v ps) ≡ length name + sizes_held v + sizes_in ps
sizes_in-with_first name (leaf_value k leaf) ps = refl
sizes_in-with_first name (document_value k b inner) ps = omega arith

-- The counts so far, with those of the next pair, are at most those of the whole document.
pub pair_within : (whole rest others : Tree) (name : List ℕ) (v : TreeValue) (elements sizes elements_of sizes_of : ℕ)
    → elements_in whole ≡ elements + elements_in rest → sizes_in whole ≡ sizes + sizes_in rest → rest ≡ with_first name v others
    → elements_of ≡ elements_held v → sizes_of ≡ sizes_held v
    → (elements + 1 + elements_of) + (sizes + length name + sizes_of) ≤ elements_in whole + sizes_in whole
pair_within whole rest others name v elements sizes elements_of sizes_of e s first held size =
    omega (arith, e, s, held, size, ap elements_in first, ap sizes_in first, elements_in-with_first name v others, sizes_in-with_first name v others)
