-- The one spelling of each tree, and which trees have one (bsonspec.org, version 1.1).
use Rattle.std.specs.Prelude.{◌≡◌, ◌≢◌, ℕ, ◌+◌, ◌^◌, ◌<◌, FitsSigned, List, [], ◌∷◌, ◌++◌, length}
use Rattle.std.specs.Prelude.{IsUtf8, slice_index, ◌==◌, if◌then◌else◌}
use Rattle.std.specs.Int.{w32, w64, to_le_bytes, cast_unsigned, from_bool}
use Rattle.bson_elem.specs.Kinds.{byte_of, Form, raw_form, boolean_form, int32_form, int64_form}
use Rattle.bson_elem.specs.Kinds.{timestamp_form, string_form, pointer_form, binary_form}
use Rattle.bson_elem.specs.Kinds.{regex_form, document_form, scope_form, form_of}
use Rattle.bson_elem.specs.Trees.{Leaf, raw_value, boolean_value, number_value, timestamp_value}
use Rattle.bson_elem.specs.Trees.{text_value, pointer_value, binary_value, regex_value, Beside}
use Rattle.bson_elem.specs.Trees.{no_code, with_code, Tree, no_pairs, leaf_pair, inner_pair}

-- ---- the bytes

-- the four bytes of a number, the lowest first
abbrev pub little : ℕ → List ℕ
little n = to_le_bytes w32 n

-- `cstring`: the bytes, and the 00 that ends them
abbrev pub cstring : List ℕ → List ℕ
cstring name = name ++ 0 ∷ []

-- `string`: the length, which counts the bytes and the last 00; the bytes; and that 00
abbrev pub string : List ℕ → List ℕ
string words = little (length words + 1) ++ cstring words

-- `document`: the number of all its bytes, the elements, and 00
abbrev pub document : List ℕ → List ℕ
document elements = little (length elements + 5) ++ (elements ++ 0 ∷ [])

-- `binary`: the number of bytes of data, the subtype, and the data; in subtype 02 the data begins
-- with an inner count, the number of bytes after that count
abbrev pub binary : ℕ → List ℕ → List ℕ
binary subtype bytes =
    if subtype == 2 then little (length bytes + 4) ++ (2 ∷ (little (length bytes) ++ bytes))
    else little (length bytes) ++ (subtype ∷ bytes)

-- a leaf, as a value of this form
abbrev pub leaf_bytes : Form → Leaf → List ℕ
leaf_bytes form (raw_value bytes) = bytes
leaf_bytes form (boolean_value b) = from_bool b ∷ []
leaf_bytes int32_form (number_value z) = to_le_bytes w32 (cast_unsigned w32 z)
leaf_bytes form (number_value z) = to_le_bytes w64 (cast_unsigned w64 z)
leaf_bytes form (timestamp_value increment seconds) = little increment ++ little seconds
leaf_bytes form (text_value words) = string words
leaf_bytes form (pointer_value namespace id) = string namespace ++ id
leaf_bytes form (binary_value subtype bytes) = binary subtype bytes
leaf_bytes form (regex_value pattern options) = cstring pattern ++ cstring options

-- a document with these elements, alone or as the scope of a code; with the code, as `code_w_s`:
-- the number of bytes of the whole value, the code, and the scope
abbrev pub inner_bytes : Beside → List ℕ → List ℕ
inner_bytes no_code elements = document elements
inner_bytes (with_code words) elements =
    little (length elements + length words + 14) ++ (string words ++ document elements)

-- `e_list`: each `element` is the kind's byte, the name, and the value
abbrev pub elements : Tree → List ℕ
elements no_pairs = []
elements (leaf_pair name k v ps) =
    (byte_of k ∷ (cstring name ++ leaf_bytes (form_of k) v)) ++ elements ps
elements (inner_pair name k b inner ps) =
    (byte_of k ∷ (cstring name ++ inner_bytes b (elements inner))) ++ elements ps

-- ---- the trees that have a spelling

-- each number of the list is a byte
abbrev pub IsBytes : List ℕ → Type 0
IsBytes bytes = (i : ℕ) → slice_index bytes i < 256

-- no byte is 00
abbrev pub HasNoZero : List ℕ → Type 0
HasNoZero [] = Unit {0}
HasNoZero (b ∷ bytes) = (b ≢ 0) × HasNoZero bytes

-- a name, a pattern or options: UTF-8 without 00
pub record IsName (name : List ℕ) : Type 0 where
  pub is_text : IsUtf8 name
  pub no_zero : HasNoZero name

-- the text of a string: UTF-8, of fewer than 2 ^ 31 bytes with its last 00
pub record IsText (words : List ℕ) : Type 0 where
  pub is_text : IsUtf8 words
  pub short : length words + 1 < 2 ^ 31

-- a binary's subtype and its data: fewer than 2 ^ 31 bytes, with the inner count of subtype 02
pub record IsBinary (subtype : ℕ) (bytes : List ℕ) : Type 0 where
  pub one_byte : subtype < 256
  pub are_bytes : IsBytes bytes
  pub short : (if subtype == 2 then length bytes + 4 else length bytes) < 2 ^ 31

-- the list is this number of bytes
pub record AreBytes (count : ℕ) (bytes : List ℕ) : Type 0 where
  pub count_is : length bytes ≡ count
  pub are_bytes : IsBytes bytes

-- the leaf is one of this form
abbrev pub IsOfForm : Form → Leaf → Type 0
IsOfForm (raw_form n) (raw_value bytes) = AreBytes n bytes
IsOfForm boolean_form (boolean_value b) = Unit {0}
IsOfForm int32_form (number_value z) = FitsSigned w32 z
IsOfForm int64_form (number_value z) = FitsSigned w64 z
IsOfForm timestamp_form (timestamp_value increment seconds) =
    (increment < 2 ^ 32) × (seconds < 2 ^ 32)
IsOfForm string_form (text_value words) = IsText words
IsOfForm pointer_form (pointer_value namespace id) = IsText namespace × AreBytes 12 id
IsOfForm binary_form (binary_value subtype bytes) = IsBinary subtype bytes
IsOfForm regex_form (regex_value pattern options) = IsName pattern × IsName options
IsOfForm _ _ = ⊥

-- in a value of this form, this is beside the document
abbrev pub StandsIn : Form → Beside → Type 0
StandsIn document_form no_code = Unit {0}
StandsIn scope_form (with_code words) = IsUtf8 words
StandsIn _ _ = ⊥

-- The pairs can be in a container of this depth: each name is UTF-8 without 00, each leaf is of its
-- kind's form, each inner document has fewer than 2 ^ 31 bytes, and none is deeper than 200.
abbrev pub Fits : ℕ → Tree → Type 0
Fits depth no_pairs = Unit {0}
Fits depth (leaf_pair name k v ps) = IsName name × IsOfForm (form_of k) v × Fits depth ps
Fits depth (inner_pair name k b inner ps) =
    IsName name × StandsIn (form_of k) b × (depth < 200)
    × (length (inner_bytes b (elements inner)) < 2 ^ 31) × Fits (depth + 1) inner × Fits depth ps

-- The bytes spell the tree, whose outermost document has depth 1.
pub record Spells (tree : Tree) (bytes : List ℕ) : Type 0 where
  pub parts : bytes ≡ document (elements tree)
  pub short : length bytes < 2 ^ 31
  pub fits : Fits 1 tree
