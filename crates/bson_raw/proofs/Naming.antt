-- The names of pairs, one after another.
use Rattle.std.proofs.Common.{eqb, Some, ◌≡◌, ℕ, suc, ◌+◌, Bool, true, false, ◌&&◌, List, ◌∷◌, [], length, refl, sym, ap, ◌∙◌, arith, add-zero, zero-add}
use Rattle.bson_elem.specs.declared.kinds.Kind.{Kind}
use Rattle.bson_elem.specs.declared.kinds.Kind.TheVariants as kinds
use Rattle.bson_elem.specs.Kinds.{byte_of, kind_of, all_kinds}
use Rattle.bson_elem.proofs.Lemmas.{joined, kind_is}
use Rattle.bson_elem.specs.Trees.{Tree, no_pairs, leaf_pair, inner_pair}
use Rattle.bson_raw.specs.Naming.{is_array_kind, is_named, is_plain}
use Rattle.bson_raw.specs.Pairs.{names_of}

pub and_true : (a : Bool) → (a && true) ≡ a
and_true true = refl
and_true false = refl

and_assoc : (a b c : Bool) → (a && (b && c)) ≡ ((a && b) && c)
and_assoc true b c = refl
and_assoc false b c = refl

count_more : (index n : ℕ) → index + 1 + n ≡ index + suc n
count_more index n = omega arith

-- the names of pairs joined are those of the first ones, and those of the others from the index after them on
is_plain-joined : (in_array : Bool) (index : ℕ) (t u : Tree) → is_plain in_array index (joined t u) ≡ (is_plain in_array index t && is_plain in_array (index + length (names_of t)) u)
is_plain-joined in_array index no_pairs u = ap (λ (k : ℕ). is_plain in_array k u) (sym (add-zero index))
is_plain-joined in_array index (leaf_pair name k v ps) u =
    ap (λ (b : Bool). is_named in_array index name && b)
    (is_plain-joined in_array (index + 1) ps u ∙ ap (λ (n : ℕ). is_plain in_array (index + 1) ps && is_plain in_array n u) (count_more index (length (names_of ps))))
    ∙ and_assoc (is_named in_array index name) (is_plain in_array (index + 1) ps) (is_plain in_array (index + length (names_of (leaf_pair name k v ps))) u)
is_plain-joined in_array index (inner_pair name k b inner ps) u =
    let inside : Bool = is_plain (is_array_kind k) 0 inner in
    let after : Bool = is_plain in_array (index + length (names_of (inner_pair name k b inner ps))) u in
    ap (λ (b : Bool). is_named in_array index name && (inside && b))
    (is_plain-joined in_array (index + 1) ps u ∙ ap (λ (n : ℕ). is_plain in_array (index + 1) ps && is_plain in_array n u) (count_more index (length (names_of ps))))
    ∙ ap (λ (b : Bool). is_named in_array index name && b) (and_assoc inside (is_plain in_array (index + 1) ps) after)
    ∙ and_assoc (is_named in_array index name) (inside && is_plain in_array (index + 1) ps) after

length-names_of-joined : (t u : Tree) → length (names_of (joined t u)) ≡ length (names_of t) + length (names_of u)
length-names_of-joined no_pairs u = sym (zero-add (length (names_of u)))
length-names_of-joined (leaf_pair name k v ps) u = omega (arith, length-names_of-joined ps u)
length-names_of-joined (inner_pair name k b inner ps) u = omega (arith, length-names_of-joined ps u)

-- the names of a pair whose value is a leaf, and of one whose value holds a tree
pub is_plain-leaf : (before named canonical : Bool) → canonical ≡ (before && named) → canonical ≡ (before && (named && true))
is_plain-leaf before named canonical is = is ∙ ap (λ (b : Bool). before && b) (sym (and_true named))

pub is_plain-inner : (before named inside canonical within : Bool) → canonical ≡ (before && named) → within ≡ inside → (canonical && within) ≡ (before && (named && (inside && true)))
is_plain-inner before named inside canonical within is is' =
    ap (λ (b : Bool). b && within) is ∙ sym (and_assoc before named within) ∙ ap (λ (b : Bool). before && (named && b)) (is' ∙ sym (and_true inside))

-- the names with one more pair
pub named_more : (in_array canonical more : Bool) (index : ℕ) (t u : Tree) → canonical ≡ is_plain in_array 0 t → length (names_of t) ≡ index → more ≡ (canonical && is_plain in_array index u) → more ≡ is_plain in_array 0 (joined t u)
named_more in_array canonical more index t u is count both =
    let after : 0 + length (names_of t) ≡ index = omega (arith, count) in
    both ∙ ap (λ (b : Bool). b && is_plain in_array index u) is ∙ ap (λ (k : ℕ). is_plain in_array 0 t && is_plain in_array k u) (sym after) ∙ sym (is_plain-joined in_array 0 t u)

pub counted_more : (index : ℕ) (name : List ℕ) (t u : Tree) → length (names_of t) ≡ index → names_of u ≡ name ∷ [] → length (names_of (joined t u)) ≡ index + 1
counted_more index name t u count one = omega (arith, length-names_of-joined t u, count, ap length one)

-- the type byte of an array
by_kind : (k : Kind) → eqb (byte_of k) 4 ≡ is_array_kind k
by_kind kinds.Double = refl
by_kind _ = refl

pub array_byte : (b : ℕ) (k : Kind) → kind_of b ≡ Some k → eqb b 4 ≡ is_array_kind k
array_byte b k is = ap (λ (c : ℕ). eqb c 4) (kind_is all_kinds b k is) ∙ by_kind k
