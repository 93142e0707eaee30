-- The name of a command.
use Rattle.std.specs.Prelude.{ℕ, List, []}
use Rattle.bson_elem.specs.{Tree, inner_pair, leaf_pair, no_pairs}

-- the name of the first field of a body
abbrev pub first_name : Tree → List ℕ
first_name no_pairs = []
first_name (leaf_pair n k v ps) = n
first_name (inner_pair n k b inner ps) = n
