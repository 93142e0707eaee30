-- The text of a document.
use Rattle.std.specs.Prelude.{ℕ, ◌+◌, ◌-◌, List, [], ◌++◌, length, codes}
use Rattle.std.specs.Fmt.{decimal}
use Rattle.hex.specs.Hex.{encode_lower}
use Rattle.bson_elem.specs.declared.kinds.Kind.{Kind}
use Rattle.bson_elem.specs.declared.kinds.Kind.TheVariants.{Double, String, Document, Array, Binary}
use Rattle.bson_elem.specs.declared.kinds.Kind.TheVariants.{Undefined, ObjectId, Boolean, DateTime}
use Rattle.bson_elem.specs.declared.kinds.Kind.TheVariants.{Null, Regex, DbPointer, Code, Symbol}
use Rattle.bson_elem.specs.declared.kinds.Kind.TheVariants.{CodeWithScope, Int32, Timestamp, Int64}
use Rattle.bson_elem.specs.declared.kinds.Kind.TheVariants.{Decimal128, MinKey, MaxKey}
use Rattle.bson_elem.specs.{Beside, Leaf, Tree, binary_value, boolean_value, document, elements}
use Rattle.bson_elem.specs.{inner_pair, leaf_pair, no_code, no_pairs, number_value, pointer_value}
use Rattle.bson_elem.specs.{raw_value, regex_value, text_value, timestamp_value, with_code}
use Rattle.bson_text.specs.Text.{indent, quoted}
use Rattle.bson_text.specs.ValueText.{string_text, inner_document_text, array_text, binary_text}
use Rattle.bson_text.specs.ValueText.{boolean_text, datetime_text, regex_text, dbpointer_text}
use Rattle.bson_text.specs.ValueText.{code_text, symbol_text, codescope_text, int32_text}
use Rattle.bson_text.specs.ValueText.{timestamp_text, int64_text}

-- what follows the name in the line of a leaf; bytes are in file order
abbrev pub leaf_text : Kind → Leaf → List ℕ
leaf_text Double (raw_value bytes) = codes " double " ++ encode_lower bytes
leaf_text String (text_value words) = string_text words
leaf_text Binary (binary_value subtype bytes) = binary_text subtype bytes
leaf_text Undefined (raw_value bytes) = codes " undefined"
leaf_text ObjectId (raw_value bytes) = codes " objectid " ++ encode_lower bytes
leaf_text Boolean (boolean_value b) = boolean_text b
leaf_text DateTime (number_value z) = datetime_text z
leaf_text Null (raw_value bytes) = codes " null"
leaf_text Regex (regex_value pattern options) = regex_text pattern options
leaf_text DbPointer (pointer_value words id) = dbpointer_text words id
leaf_text Code (text_value words) = code_text words
leaf_text Symbol (text_value words) = symbol_text words
leaf_text Int32 (number_value z) = int32_text z
leaf_text Timestamp (timestamp_value increment seconds) = timestamp_text seconds increment
leaf_text Int64 (number_value z) = int64_text z
leaf_text Decimal128 (raw_value bytes) = codes " decimal128 " ++ encode_lower bytes
leaf_text MinKey (raw_value bytes) = codes " minkey"
leaf_text MaxKey (raw_value bytes) = codes " maxkey"
leaf_text _ _ = []

-- what follows the name in the line of a document, an array or a code with scope: the kind, what
-- is beside the document, and its size
abbrev pub inner_text : Kind → Beside → ℕ → List ℕ
inner_text Document no_code size = inner_document_text size
inner_text Array no_code size = array_text size
inner_text CodeWithScope (with_code words) size = codescope_text words size
inner_text _ _ size = []

-- the line of an element at this depth, by its name and the text of its value
abbrev pub element_line : ℕ → List ℕ → List ℕ → List ℕ
element_line deep name shown = indent deep ++ (quoted name ++ (shown ++ codes "\n"))

-- the number of bytes of the document of these pairs
abbrev pub document_size : Tree → ℕ
document_size t = length (document (elements t))

-- the lines of the pairs at this depth; those of an inner document follow its own line, one deeper
abbrev pub element_lines : ℕ → Tree → List ℕ
element_lines deep no_pairs = []
element_lines deep (leaf_pair name k v ps) =
    element_line deep name (leaf_text k v) ++ element_lines deep ps
element_lines deep (inner_pair name k b inner ps) =
    element_line deep name (inner_text k b (document_size inner))
    ++ (element_lines (deep + 1) inner ++ element_lines deep ps)

-- the text of a document: the line of its size, and those of its elements
abbrev pub document_text : Tree → List ℕ
document_text t =
    codes "document " ++ (decimal (document_size t) ++ (codes "\n" ++ element_lines 1 t))

-- ---- the text with offsets

-- what stands before the line of what begins at this offset
abbrev pub offset_text : ℕ → List ℕ
offset_text at = decimal at ++ codes "\t"

-- where the pairs begin that are the last ones of a document that ends here, before its 00
abbrev pub pairs_start : ℕ → Tree → ℕ
pairs_start end t = end - (length (elements t) + 1)

-- The lines of the pairs, of which the first begins at this offset, each behind the offset of its
-- element. The next element begins where this one ends, and a document in it ends there too.
abbrev pub element_lines_at : ℕ → ℕ → Tree → List ℕ
element_lines_at at deep no_pairs = []
element_lines_at at deep (leaf_pair name k v ps) =
    let end = at + length (elements (leaf_pair name k v no_pairs)) in
    offset_text at ++ (element_line deep name (leaf_text k v) ++ element_lines_at end deep ps)
element_lines_at at deep (inner_pair name k b inner ps) =
    let end = at + length (elements (inner_pair name k b inner no_pairs)) in
    offset_text at ++ (element_line deep name (inner_text k b (document_size inner))
    ++ (element_lines_at (pairs_start end inner) (deep + 1) inner ++ element_lines_at end deep ps))

-- the text of a document that begins at this offset: the line of its size, behind its own offset,
-- and those of its elements, which begin behind the four bytes of its length
abbrev pub document_text_at : ℕ → Tree → List ℕ
document_text_at at t =
    offset_text at ++ (codes "document " ++ (decimal (document_size t) ++ (codes "\n"
    ++ element_lines_at (at + 4) 1 t)))
