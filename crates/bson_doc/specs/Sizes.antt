-- A container is deeper than what it holds.
use Rattle.std.specs.Prelude.{◌≡◌, ℕ, ◌+◌, ◌≤◌, max, List, [], ◌∷◌, map, length, String}
use Rattle.std.specs.Prelude.{string_bytes}
use Rattle.std.specs.declared.alloc.Global.{Global}
use Rattle.std.specs.Fmt.{decimal}
use Rattle.std.proofs.Common.{arith}
use denote.Param.Weighed.{most}
use Rattle.bson_elem.specs.{Tree}
use Rattle.bson_raw.specs.{TreeValue, document_value, leaf_value, with_first}
use Rattle.bson_doc.specs.declared.bson_values.Bson.{Bson}
use Rattle.bson_doc.specs.declared.bson_values.Bson.TheVariants as values
use Rattle.bson_doc.specs.declared.arrays.Array.TheDeep.{deep-Bson}
use Rattle.bson_doc.specs.Depths.{tree_depth, value_depth}
use Rattle.bson_doc.specs.Bson.{value_of}
use Rattle.bson_doc.specs.Document.{paired, tree_of}
use Rattle.bson_doc.specs.Array.{array_tree}

-- a pair is as deep as its value
tree_depth-with_first : (name : List ℕ) (v : TreeValue) (ps : Tree)
    → tree_depth (with_first name v ps) ≡ max (value_depth v) (tree_depth ps)
tree_depth-with_first name (leaf_value k leaf) ps = omega arith
tree_depth-with_first name (document_value k b inner) ps = omega arith

pub deep_value : (b : Bson) → deep-Bson b ≤ value_depth (value_of b)
deep_value (values.Document d) = omega arith
deep_value (values.Array a) = omega arith
deep_value (values.CodeWithScope code scope) = omega arith
deep_value _ = omega arith

pub array_deeper : (index : ℕ) (bs : List Bson)
    → max (most deep-Bson bs) 0 ≤ tree_depth (array_tree index (map value_of bs))
array_deeper index [] = omega arith
array_deeper index (b ∷ bs) =
    rw
    (tree_depth-with_first (decimal index) (value_of b)
    (array_tree (index + 1) (map value_of bs)))
    (omega (arith, deep_value b, array_deeper (index + 1) bs))

pub document_deeper : (ns : List (String Global)) (bs : List Bson) → length ns ≡ length bs
    → max (most deep-Bson bs) 0
    ≤ tree_depth (tree_of (paired (map string_bytes ns) (map value_of bs)))
document_deeper [] [] e = omega arith
document_deeper [] (b ∷ bs) e = absurd (omega arith)
document_deeper (n ∷ ns) [] e = absurd (omega arith)
document_deeper (n ∷ ns) (b ∷ bs) e =
    rw
    (tree_depth-with_first (string_bytes n) (value_of b)
    (tree_of (paired (map string_bytes ns) (map value_of bs))))
    (omega (arith, deep_value b, document_deeper ns bs (omega arith)))
