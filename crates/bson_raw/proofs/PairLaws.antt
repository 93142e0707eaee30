-- The names of pairs, one after another.
use Rattle.std.proofs.Common.{◌≡◌, ◌≢◌, ℕ, zero, suc, ◌-◌, true, false, cond, List, [], ◌∷◌, ◌++◌, length, take, Some, refl, ap, ◌∙◌, arith}
use Rattle.std.specs.Str.{bytes_eq}
use Rattle.std.proofs.lemmas.List.{take_at}
use Rattle.bson_elem.specs.Trees.{Tree}
use Rattle.bson_raw.specs.Pairs.{TreeValue, leaf_value, document_value, with_first, names_of, is_among, first_repeated}

pub names_of-with_first : (name : List ℕ) (v : TreeValue) (ps : Tree) → names_of (with_first name v ps) ≡ name ∷ names_of ps
names_of-with_first name (leaf_value k leaf) ps = refl
names_of-with_first name (document_value k b inner) ps = refl

pub first_repeated-with_first : (seen : List (List ℕ)) (name : List ℕ) (v : TreeValue) (ps : Tree) → first_repeated seen (with_first name v ps) ≡ cond (is_among name seen) (Some name) (first_repeated (seen ++ name ∷ []) ps)
first_repeated-with_first seen name (leaf_value k leaf) ps = refl
first_repeated-with_first seen name (document_value k b inner) ps = refl

-- the first name is the one that is sought
pub among_here : (name n : List ℕ) (ns : List (List ℕ)) (left : ℕ) → left ≢ 0 → bytes_eq n name ≡ true → is_among name (take left (n ∷ ns)) ≡ true
among_here name n ns zero some eq = absurd (some refl)
among_here name n ns (suc k) some eq = rw eq refl

-- otherwise the name is sought among the others
pub among_later : (name n : List ℕ) (ns : List (List ℕ)) (left : ℕ) → left ≢ 0 → bytes_eq n name ≡ false → is_among name (take left (n ∷ ns)) ≡ is_among name (take (left - 1) ns)
among_later name n ns zero some eq = absurd (some refl)
among_later name n ns (suc k) some eq =
    let less : (suc k) - 1 ≡ k = omega arith in
    rw (eq, less) refl

-- the names that were seen are the first ones
pub seen_are : (names seen rest : List (List ℕ)) (n : ℕ) → names ≡ seen ++ rest → length seen ≡ n → take n names ≡ seen
seen_are names seen rest n is size = ap (take n) is ∙ take_at seen rest n size
