-- What each owned value has by its type: texts are UTF-8, bytes are bytes, and numbers fit.
use Rattle.std.specs.Prelude.{◌^◌, ◌<◌, FitsSigned, IsUtf8}
use Rattle.std.specs.Int.{w32, w64}
use Rattle.bson_elem.specs.{AreBytes, Form, IsBytes, Leaf, StandsIn, Tree, binary_form}
use Rattle.bson_elem.specs.{binary_value, boolean_form, boolean_value, form_of, inner_pair}
use Rattle.bson_elem.specs.{int32_form, int64_form, leaf_pair, no_pairs, number_value, pointer_form}
use Rattle.bson_elem.specs.{pointer_value, raw_form, raw_value, regex_form, regex_value}
use Rattle.bson_elem.specs.{string_form, text_value, timestamp_form, timestamp_value}
use Rattle.bson_raw.specs.{TreeValue, document_value, leaf_value}

-- the leaf is one of this form, whatever its length, and may have a 00 in a pattern or options
abbrev pub IsFormedLeaf : Form → Leaf → Type 0
IsFormedLeaf (raw_form n) (raw_value bytes) = AreBytes n bytes
IsFormedLeaf boolean_form (boolean_value b) = Unit {0}
IsFormedLeaf int32_form (number_value z) = FitsSigned w32 z
IsFormedLeaf int64_form (number_value z) = FitsSigned w64 z
IsFormedLeaf timestamp_form (timestamp_value increment seconds) =
    (increment < 2 ^ 32) × (seconds < 2 ^ 32)
IsFormedLeaf string_form (text_value words) = IsUtf8 words
IsFormedLeaf pointer_form (pointer_value words id) = IsUtf8 words × AreBytes 12 id
IsFormedLeaf binary_form (binary_value subtype bytes) = (subtype < 256) × IsBytes bytes
IsFormedLeaf regex_form (regex_value pattern options) = IsUtf8 pattern × IsUtf8 options
IsFormedLeaf _ _ = ⊥

-- the same of the leaves and the names of pairs
abbrev pub IsFormed : Tree → Type 0
IsFormed no_pairs = Unit {0}
IsFormed (leaf_pair n k v ps) = IsUtf8 n × IsFormedLeaf (form_of k) v × IsFormed ps
IsFormed (inner_pair n k b inner ps) =
    IsUtf8 n × StandsIn (form_of k) b × IsFormed inner × IsFormed ps

-- the same of a value
abbrev pub IsFormedValue : TreeValue → Type 0
IsFormedValue (leaf_value k v) = IsFormedLeaf (form_of k) v
IsFormedValue (document_value k b inner) = StandsIn (form_of k) b × IsFormed inner
