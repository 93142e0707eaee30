-- An encoding of trees in which no two trees have the same code.
use Rattle.std.specs.Prelude.{◌≡◌, ◌≢◌, ℕ, ℤ, Bool, List, ◌⊎◌, Option, Some, None, refl}
use Rattle.std.proofs.Common.{ap, arith, inl, inr}
use Rattle.std.specs.Coded.{Coded, code_by, coded_ℕ, coded_ℤ, coded_bool, coded_list, coded×}
use Rattle.std.specs.Coded.{coded⊎, coded_option}
use base.Stored.{Gv, gnil, gnum, gcons}
use Rattle.bson_elem.specs.declared.kinds.Kind.{Kind}
use Rattle.bson_elem.specs.declared.kinds.Kind.TheVariants.{Null}
use Rattle.bson_elem.specs.Kinds.{byte_of, kind_of}
use Rattle.bson_elem.specs.Trees.{Beside, Leaf, Tree, binary_value, boolean_value, inner_pair}
use Rattle.bson_elem.specs.Trees.{leaf_pair, no_code, no_pairs, number_value, pointer_value}
use Rattle.bson_elem.specs.Trees.{raw_value, regex_value, text_value, timestamp_value, with_code}

abbrev pub coded_text : Coded (List ℕ)
coded_text = coded_list coded_ℕ

-- ---- kinds, by their type bytes

abbrev pub known : Option Kind → Kind
known None = Null
known (Some k) = k

pub known_kind : (k : Kind) → known (kind_of (byte_of k)) ≡ k
known_kind Null = refl
known_kind _ = refl

abbrev pub coded_kind : Coded Kind
coded_kind = code_by ℕ coded_ℕ byte_of (λ n. known (kind_of n)) known_kind

-- ---- leaves, by their parts

abbrev pub Parts : Type 0
Parts =
    List ℕ
    ⊎ (Bool ⊎ (ℤ ⊎ ((ℕ × ℕ) ⊎ (List ℕ ⊎ ((List ℕ × List ℕ) ⊎ ((ℕ × List ℕ) ⊎ (List ℕ × List ℕ)))))))

abbrev pub parts_of : Leaf → Parts
parts_of (raw_value bytes) = inl bytes
parts_of (boolean_value b) = inr (inl b)
parts_of (number_value z) = inr (inr (inl z))
parts_of (timestamp_value increment seconds) = inr (inr (inr (inl (increment, seconds))))
parts_of (text_value words) = inr (inr (inr (inr (inl words))))
parts_of (pointer_value words id) = inr (inr (inr (inr (inr (inl (words, id))))))
parts_of (binary_value subtype bytes) = inr (inr (inr (inr (inr (inr (inl (subtype, bytes)))))))
parts_of (regex_value pattern options) = inr (inr (inr (inr (inr (inr (inr (pattern, options)))))))

abbrev pub leaf_of : Parts → Leaf
leaf_of (inl bytes) = raw_value bytes
leaf_of (inr (inl b)) = boolean_value b
leaf_of (inr (inr (inl z))) = number_value z
leaf_of (inr (inr (inr (inl p)))) = timestamp_value p.0 p.1
leaf_of (inr (inr (inr (inr (inl words))))) = text_value words
leaf_of (inr (inr (inr (inr (inr (inl p)))))) = pointer_value p.0 p.1
leaf_of (inr (inr (inr (inr (inr (inr (inl p))))))) = binary_value p.0 p.1
leaf_of (inr (inr (inr (inr (inr (inr (inr p))))))) = regex_value p.0 p.1

pub leaf_again : (v : Leaf) → leaf_of (parts_of v) ≡ v
leaf_again (raw_value bytes) = refl
leaf_again (boolean_value b) = refl
leaf_again (number_value z) = refl
leaf_again (timestamp_value increment seconds) = refl
leaf_again (text_value words) = refl
leaf_again (pointer_value words id) = refl
leaf_again (binary_value subtype bytes) = refl
leaf_again (regex_value pattern options) = refl

abbrev pub coded_leaf : Coded Leaf
coded_leaf =
    code_by Parts
    (coded⊎ coded_text
    (coded⊎ coded_bool
    (coded⊎ coded_ℤ
    (coded⊎ (coded× coded_ℕ coded_ℕ)
    (coded⊎ coded_text
    (coded⊎ (coded× coded_text coded_text)
    (coded⊎ (coded× coded_ℕ coded_text) (coded× coded_text coded_text))))))))
    parts_of leaf_of leaf_again

abbrev pub code_beside : Beside → Option (List ℕ)
code_beside no_code = None
code_beside (with_code words) = Some words

abbrev pub beside_of : Option (List ℕ) → Beside
beside_of None = no_code
beside_of (Some words) = with_code words

pub beside_again : (b : Beside) → beside_of (code_beside b) ≡ b
beside_again no_code = refl
beside_again (with_code words) = refl

abbrev pub coded_beside : Coded Beside
coded_beside =
    code_by (Option (List ℕ)) (coded_option coded_text) code_beside beside_of beside_again

-- ---- trees

abbrev pub head : Gv → Gv
head gnil = gnil
head (gnum n) = gnil
head (gcons a b) = a

abbrev pub tail : Gv → Gv
tail gnil = gnil
tail (gnum n) = gnil
tail (gcons a b) = b

apart : (m n : ℕ) {a b : Gv} → gcons (gnum m) a ≡ gcons (gnum n) b → m ≢ n → ⊥
apart m n p other = other (cc)

abbrev pub tree_code : Tree → Gv
tree_code no_pairs = gcons (gnum 0) gnil
tree_code (leaf_pair n k v ps) =
    gcons (gnum 1)
    (gcons (coded_text.code n)
    (gcons (coded_kind.code k) (gcons (coded_leaf.code v) (tree_code ps))))
tree_code (inner_pair n k b inner ps) =
    gcons (gnum 2)
    (gcons (coded_text.code n)
    (gcons (coded_kind.code k)
    (gcons (coded_beside.code b) (gcons (tree_code inner) (tree_code ps)))))

pub tree_inj : (x y : Tree) → tree_code x ≡ tree_code y → x ≡ y
tree_inj no_pairs no_pairs p = refl
tree_inj no_pairs (leaf_pair n k v ps) p = absurd (apart 0 1 p (omega arith))
tree_inj no_pairs (inner_pair n k b inner ps) p = absurd (apart 0 2 p (omega arith))
tree_inj (leaf_pair n k v ps) no_pairs p = absurd (apart 1 0 p (omega arith))
tree_inj (leaf_pair n k v ps) (leaf_pair n' k' v' ps') p = λ i.
    leaf_pair (coded_text.inj n n' (ap (λ g. head (tail g)) p) i)
    (coded_kind.inj k k' (ap (λ g. head (tail (tail g))) p) i)
    (coded_leaf.inj v v' (ap (λ g. head (tail (tail (tail g)))) p) i)
    (tree_inj ps ps' (ap (λ g. tail (tail (tail (tail g)))) p) i)
tree_inj (leaf_pair n k v ps) (inner_pair n' k' b' inner' ps') p =
    absurd (apart 1 2 p (omega arith))
tree_inj (inner_pair n k b inner ps) no_pairs p = absurd (apart 2 0 p (omega arith))
tree_inj (inner_pair n k b inner ps) (leaf_pair n' k' v' ps') p = absurd (apart 2 1 p (omega arith))
tree_inj (inner_pair n k b inner ps) (inner_pair n' k' b' inner' ps') p = λ i.
    inner_pair (coded_text.inj n n' (ap (λ g. head (tail g)) p) i)
    (coded_kind.inj k k' (ap (λ g. head (tail (tail g))) p) i)
    (coded_beside.inj b b' (ap (λ g. head (tail (tail (tail g)))) p) i)
    (tree_inj inner inner' (ap (λ g. head (tail (tail (tail (tail g))))) p) i)
    (tree_inj ps ps' (ap (λ g. tail (tail (tail (tail (tail g))))) p) i)

abbrev pub coded_tree : Coded Tree
coded_tree = record { code = tree_code; inj = tree_inj }
