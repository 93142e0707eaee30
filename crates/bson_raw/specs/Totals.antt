-- What a document holds, at all depths.
use Rattle.std.specs.Prelude.{ℕ, ◌+◌, length}
use Rattle.bson_elem.specs.{Beside, Leaf, Tree, binary_value, inner_pair, leaf_pair, no_code}
use Rattle.bson_elem.specs.{no_pairs, pointer_value, regex_value, text_value, with_code}
use Rattle.bson_raw.specs.Pairs.{TreeValue, leaf_value, document_value}

-- the number of elements, including those of the documents, arrays and scopes inside
abbrev pub elements_in : Tree → ℕ
elements_in no_pairs = 0
elements_in (leaf_pair name k v ps) = 1 + elements_in ps
elements_in (inner_pair name k b inner ps) = 1 + elements_in inner + elements_in ps

-- the number of bytes of a leaf's texts and data: of a string, a code or a symbol, of the namespace
-- of a DBPointer, of the data of a binary, of a pattern and its options
abbrev pub leaf_size : Leaf → ℕ
leaf_size (text_value words) = length words
leaf_size (pointer_value namespace id) = length namespace
leaf_size (binary_value subtype bytes) = length bytes
leaf_size (regex_value pattern options) = length pattern + length options
leaf_size _ = 0

-- the number of bytes of the code beside a scope
abbrev pub beside_size : Beside → ℕ
beside_size no_code = 0
beside_size (with_code words) = length words

-- the number of bytes of all names, texts and data, including those of the documents, arrays and
-- scopes inside
abbrev pub sizes_in : Tree → ℕ
sizes_in no_pairs = 0
sizes_in (leaf_pair name k v ps) = length name + leaf_size v + sizes_in ps
sizes_in (inner_pair name k b inner ps) = length name + beside_size b + sizes_in inner + sizes_in ps

-- the number of elements of the document in a value, and of those inside it
abbrev pub elements_held : TreeValue → ℕ
elements_held (leaf_value k leaf) = 0
elements_held (document_value k b inner) = elements_in inner

-- the number of bytes of a value's own texts and data, and of the names, texts and data of the
-- document in it
abbrev pub sizes_held : TreeValue → ℕ
sizes_held (leaf_value k leaf) = leaf_size leaf
sizes_held (document_value k b inner) = beside_size b + sizes_in inner
