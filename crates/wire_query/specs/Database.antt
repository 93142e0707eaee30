-- The database in the body of a message: the string `$db`, which is among the top-level elements of
-- each command (MongoDB's OP_MSG specification: Global Command Arguments).
use Rattle.std.specs.Prelude.{List, ℕ, ◌∷◌, ◌++◌, codes, Bool, if◌then◌else◌}
use Rattle.bson_elem.specs.declared.kinds.Kind.TheVariants as kinds
use Rattle.bson_elem.specs.{Tree, cstring, inner_pair, leaf_pair, no_pairs, string, text_value}
use Rattle.bson_raw.specs.{is_among, names_of}

-- whether the command has a top-level element `$db`
abbrev pub names_database : Tree → Bool
names_database body = is_among (codes "$db") (names_of body)

-- the pairs of the command, and `$db` behind them: the database's name, as a string
abbrev pub with_db_appended : List ℕ → Tree → Tree
with_db_appended database no_pairs =
    leaf_pair (codes "$db") kinds.String (text_value database) no_pairs
with_db_appended database (leaf_pair n k v ps) = leaf_pair n k v (with_db_appended database ps)
with_db_appended database (inner_pair n k b inner ps) =
    inner_pair n k b inner (with_db_appended database ps)

-- the command with its database: with `$db` behind its other elements, if it has none of its own
abbrev pub with_database : List ℕ → Tree → Tree
with_database database body =
    if names_database body then body else with_db_appended database body

-- the bytes of the element: the byte of a string, the name, and the string
abbrev pub db_element : List ℕ → List ℕ
db_element database = 2 ∷ (cstring (codes "$db") ++ string database)
