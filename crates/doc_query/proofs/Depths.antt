-- A value is no deeper than what holds it.
use Rattle.std.proofs.Common.{◌≡◌, ◌≤◌, ◌<◌, ℕ, zero, suc, ◌+◌, max, List, [], ◌∷◌, length, map, drop, get_or, sym, ap, ◌∙◌, arith, add-one}
use Rattle.std.proofs.Math.Seq.{drop-cons}
use Rattle.std.specs.Fmt.{decimal}
use Rattle.bson_elem.specs.{Tree}
use Rattle.bson_raw.specs.{TreeValue, document_value, leaf_value, with_first}
use Rattle.bson_doc.specs.declared.bson_values.Bson.{Bson}
use Rattle.bson_doc.specs.Array.{array_tree}
use Rattle.bson_doc.specs.Bson.{value_of}
use Rattle.bson_doc.specs.Depths.{tree_depth, value_depth}

pub depth-with_first : (n : List ℕ) (v : TreeValue) (ps : Tree) → tree_depth (with_first n v ps) ≡ max (value_depth v) (tree_depth ps)
depth-with_first n (leaf_value k leaf) ps = omega arith
depth-with_first n (document_value k b inner) ps = omega arith

-- the first value that is left, and the others
pub values_left : (bs : List Bson) (i : ℕ) (b : Bson) → i < length bs → b ≡ get_or bs i b → map value_of (drop i bs) ≡ value_of b ∷ map value_of (drop (i + 1) bs)
values_left bs i b inside is =
    ap (map value_of) (drop-cons bs i b inside ∙ ap (λ (x : Bson). x ∷ drop (suc i) bs) (sym is) ∙ ap (λ (n : ℕ). b ∷ drop n bs) (sym (add-one i)))

-- an element is no deeper than its array
pub element_depth : (start i : ℕ) (bs : List Bson) (b : Bson) → i < length bs → b ≡ get_or bs i b → value_depth (value_of b) ≤ tree_depth (array_tree start (map value_of bs))
element_depth start i [] b inside is = absurd (omega arith)
element_depth start zero (x ∷ bs) b inside is = omega (arith, ap (λ y. value_depth (value_of y)) is, depth-with_first (decimal start) (value_of x) (array_tree (start + 1) (map value_of bs)))
element_depth start (suc i) (x ∷ bs) b inside is = omega (arith, element_depth (start + 1) i bs b (omega arith) is, depth-with_first (decimal start) (value_of x) (array_tree (start + 1) (map value_of bs)))

pub some_clause : (bs : List Bson) (i : ℕ) → i < length bs → length bs ≡ 0 → ⊥
some_clause bs i inside none = absurd (omega arith)
