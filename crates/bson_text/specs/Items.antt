-- The text of the value of one element, as it was read.
use Rattle.std.specs.Prelude.{ℕ, ◌+◌, List, length}
use Rattle.bson_elem.specs.declared.kinds.Kind.{Kind}
use Rattle.bson_elem.specs.{Value, a_leaf, opens}
use Rattle.bson_text.specs.Dump.{leaf_text, inner_text}

-- what follows the name in the element's line; a document is told by its size
abbrev pub read_text : Kind → Value → List ℕ
read_text k (a_leaf leaf) = leaf_text k leaf
read_text k (opens q b body) = inner_text k b (length body + 5)
