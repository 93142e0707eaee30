-- The first reason why pairs have no spelling, one pair after another.
use Rattle.std.proofs.Common.{◌≡◌, ℕ, suc, ◌+◌, ◌<◌, ◌^◌, max, true, false, cond, List, [], ◌∷◌, Some, None, length, map, get_or, drop, refl, sym, ap, ◌∙◌, arith, ◌||◌, ◌==◌, add-one, drop-cons}
use Rattle.std.specs.Option.{option_or}
use Rattle.std.specs.Str.Parse.{AllDigits}
use Rattle.std.proofs.lemmas.Bool.Decides.{nat_tests}
use Rattle.std.proofs.lemmas.Fmt.{decimal_is_IsNumeral}
use Rattle.std.proofs.lemmas.Str.Parse.{digit_from_value}
use Rattle.std.specs.Fmt.{decimal}
use Rattle.bson_elem.specs.Trees.{Tree}
use Rattle.bson_raw.specs.Pairs.{TreeValue, leaf_value, document_value, with_first}
use Rattle.bson_doc.specs.declared.refusal.DocRefusal.{DocRefusal}
use Rattle.bson_doc.specs.declared.refusal.DocRefusal.TheVariants.{ZeroInName}
use Rattle.bson_doc.specs.declared.bson_values.Bson.{Bson}
use Rattle.bson_doc.specs.Array.{array_tree}
use Rattle.bson_doc.specs.Bson.{value_of}
use Rattle.bson_doc.specs.Depths.{tree_depth, value_depth}
use Rattle.bson_doc.specs.Unwritable.{has_zero, unwritable, unwritable_value}

pub unwritable-with_first : (depth : ℕ) (n : List ℕ) (v : TreeValue) (ps : Tree) → unwritable depth (with_first n v ps) ≡ cond (has_zero n) (Some ZeroInName) (option_or (unwritable_value depth v) (unwritable depth ps))
unwritable-with_first depth n (leaf_value k leaf) ps = refl
unwritable-with_first depth n (document_value k b inner) ps = refl

-- the first pair passes
pub passes : (depth : ℕ) (n : List ℕ) (v : TreeValue) (ps : Tree) → has_zero n ≡ false → unwritable_value depth v ≡ None → unwritable depth (with_first n v ps) ≡ unwritable depth ps
passes depth n v ps e f = unwritable-with_first depth n v ps ∙ rw (e, f) refl

-- the first pair's name doesn't
pub name_fails : (depth : ℕ) (n : List ℕ) (v : TreeValue) (ps : Tree) → has_zero n ≡ true → unwritable depth (with_first n v ps) ≡ Some ZeroInName
name_fails depth n v ps e = unwritable-with_first depth n v ps ∙ rw e refl

-- the first pair's value doesn't
pub value_fails : (depth : ℕ) (n : List ℕ) (v : TreeValue) (ps : Tree) (e : DocRefusal) → has_zero n ≡ false → unwritable_value depth v ≡ Some e → unwritable depth (with_first n v ps) ≡ Some e
value_fails depth n v ps e new is = unwritable-with_first depth n v ps ∙ rw (new, is) refl

-- ---- a value is less deep than what holds it

pub tree_depth-with_first : (n : List ℕ) (v : TreeValue) (ps : Tree) → tree_depth (with_first n v ps) ≡ max (value_depth v) (tree_depth ps)
tree_depth-with_first n (leaf_value k leaf) ps = omega arith
tree_depth-with_first n (document_value k b inner) ps = omega arith

-- ---- the indexes of an array

no_zero_among : (digits : List ℕ) → AllDigits 10 digits → has_zero digits ≡ false
no_zero_among [] d = refl
no_zero_among (c ∷ cs) d =
    let r = digit_from_value c d.0 in
    let apart : (c == 0) ≡ false = grind (arith, nat_tests, r) in
    λ i. apart i || no_zero_among cs d.1 i

pub no_zero_in_index : (index : ℕ) → index < 2 ^ 64 → has_zero (decimal index) ≡ false
no_zero_in_index index small = no_zero_among (decimal index) (decimal_is_IsNumeral index small).0.1

-- the first value left, and the others
pub values_left : (bs : List Bson) (i : ℕ) (b : Bson) → i < length bs → b ≡ get_or bs i b → map value_of (drop i bs) ≡ value_of b ∷ map value_of (drop (i + 1) bs)
values_left bs i b lt is =
    let e = add-one i in
    let cut : drop i bs ≡ b ∷ drop (i + 1) bs = drop-cons bs i b lt ∙ ap (λ (x : Bson). x ∷ drop (suc i) bs) (sym is) ∙ ap (λ (n : ℕ). b ∷ drop n bs) (sym e) in
    ap (map value_of) cut

pub array_left : (bs : List Bson) (i : ℕ) (b : Bson) → i < length bs → b ≡ get_or bs i b → array_tree i (map value_of (drop i bs)) ≡ with_first (decimal i) (value_of b) (array_tree (i + 1) (map value_of (drop (i + 1) bs)))
array_left bs i b lt is = ap (array_tree i) (values_left bs i b lt is)
