-- The pickle of pairs, one after another.
use Rattle.std.proofs.Common.{◌≡◌, ◌≤◌, ◌++◌, ◌+◌, ℕ, List, Option, None, Some, Result, OnOk, Bool, true, false, refl, sym, ap, ◌∙◌, arith, append_assoc}
use Rattle.std.specs.Prelude.{if◌then◌else◌}
use Rattle.std.specs.Io.KnownBytes.{Appends}
use Rattle.std.proofs.KnownBytes.{Appends-trans}
use Rattle.bson_elem.specs.declared.kinds.Kind.{Kind}
use Rattle.bson_elem.specs.{Spells, Tree, inner_pair, leaf_pair, no_pairs}
use Rattle.bson_raw.specs.{TreeValue, document_bytes, document_value, elements_in, is_array_kind, leaf_value, with_first}
use Rattle.text_writer.proofs.Lemmas.{word_first}
use Rattle.byte_views.specs.declared.pickle.held.Held.{Held}
use Rattle.byte_views.specs.Pickles.{closing, label, names_in, names_of_one, opening, pairs_pickle}
use Rattle.byte_views.specs.PickleParts.{IsFront}

-- ---- a pair whose value holds none, and the pairs after it

first_leaf : (holder : Kind) (name : List ℕ) (v : TreeValue) (ps : Tree) (front : List ℕ) → IsFront v None front
    → pairs_pickle holder (with_first name v ps) ≡ label holder name ++ (front ++ pairs_pickle holder ps)
first_leaf holder name (leaf_value k leaf) ps front f = ap (λ x. label holder name ++ (x ++ pairs_pickle holder ps)) (sym f)
first_leaf holder name (document_value k b i) ps front f = absurd f

first_leaf_names : (holder : Kind) (name : List ℕ) (v : TreeValue) (ps : Tree) (front : List ℕ) → IsFront v None front
    → names_in holder (with_first name v ps) ≡ names_of_one holder + names_in holder ps
first_leaf_names holder name (leaf_value k leaf) ps front f = refl
first_leaf_names holder name (document_value k b i) ps front f = absurd f

-- ---- a pair whose value holds some, and the pairs after it

-- the pairs that a value holds
abbrev pub inner_of : TreeValue → Tree
inner_of (leaf_value k leaf) = no_pairs
inner_of (document_value k b i) = i

-- what follows the front of such a pair
abbrev pub behind : Kind → Held → TreeValue → Tree → List ℕ
behind holder h v ps = pairs_pickle h.kind (inner_of v) ++ (closing h.kind ++ pairs_pickle holder ps)

pub held_spelled : (v : TreeValue) (h : Held) (front : List ℕ) → IsFront v (Some h) front → Spells (inner_of v) (document_bytes h.document)
held_spelled (leaf_value k leaf) h front f = absurd f
held_spelled (document_value k b i) h front f = f.1

first_held : (holder : Kind) (name : List ℕ) (v : TreeValue) (ps : Tree) (h : Held) (front : List ℕ) → IsFront v (Some h) front
    → pairs_pickle holder (with_first name v ps) ≡ label holder name ++ (front ++ behind holder h v ps)
first_held holder name (leaf_value k leaf) ps h front f = absurd f
first_held holder name (document_value k b i) ps h front f =
    let rest : Kind → List ℕ = λ x. pairs_pickle x i ++ (closing x ++ pairs_pickle holder ps) in
    ap (λ x. label holder name ++ (opening k b ++ rest x)) (sym f.0) ∙ ap (λ x. label holder name ++ (x ++ rest h.kind)) (sym f.2)

first_held_names : (holder : Kind) (name : List ℕ) (v : TreeValue) (ps : Tree) (h : Held) (front : List ℕ) → IsFront v (Some h) front
    → names_in holder (with_first name v ps) ≡ names_of_one holder + (names_in h.kind (inner_of v) + names_in holder ps)
first_held_names holder name (leaf_value k leaf) ps h front f = absurd f
first_held_names holder name (document_value k b i) ps h front f = omega (arith, ap (λ x. names_in x i) f.0)

-- ---- what was written, and what is left

-- a part more is written, of what was left
part_written : (whole text part more left rest : List ℕ) → whole ≡ text ++ left → left ≡ part ++ (more ++ rest)
    → whole ≡ (text ++ (part ++ more)) ++ rest
part_written whole text part more left rest before is =
    before ∙ ap (λ x. text ++ x) (is ∙ sym (append_assoc part more rest)) ∙ sym (append_assoc text (part ++ more) rest)

pub leaf_written : (holder : Kind) (name : List ℕ) (v : TreeValue) (whole left ps : Tree) (text front : List ℕ)
    → pairs_pickle holder whole ≡ text ++ pairs_pickle holder left → left ≡ with_first name v ps → IsFront v None front
    → pairs_pickle holder whole ≡ (text ++ (label holder name ++ front)) ++ pairs_pickle holder ps
leaf_written holder name v whole left ps text front before first f =
    part_written (pairs_pickle holder whole) text (label holder name) front (pairs_pickle holder left) (pairs_pickle holder ps) before
    (ap (pairs_pickle holder) first ∙ first_leaf holder name v ps front f)

pub leaf_counted : (holder : Kind) (name : List ℕ) (v : TreeValue) (whole left ps : Tree) (n each : ℕ) (front : List ℕ)
    → names_in holder whole ≡ n + names_in holder left → left ≡ with_first name v ps → IsFront v None front → each ≡ names_of_one holder
    → names_in holder whole ≡ n + each + names_in holder ps
leaf_counted holder name v whole left ps n each front before first f is =
    omega (arith, before, ap (names_in holder) first, first_leaf_names holder name v ps front f, is)

pub held_written : (holder : Kind) (name : List ℕ) (v : TreeValue) (h : Held) (whole left ps : Tree) (text front : List ℕ)
    → pairs_pickle holder whole ≡ text ++ pairs_pickle holder left → left ≡ with_first name v ps → IsFront v (Some h) front
    → pairs_pickle holder whole ≡ (text ++ (label holder name ++ front)) ++ behind holder h v ps
held_written holder name v h whole left ps text front before first f =
    part_written (pairs_pickle holder whole) text (label holder name) front (pairs_pickle holder left) (behind holder h v ps) before
    (ap (pairs_pickle holder) first ∙ first_held holder name v ps h front f)

pub held_counted : (holder : Kind) (name : List ℕ) (v : TreeValue) (h : Held) (whole left ps : Tree) (n each : ℕ) (front : List ℕ)
    → names_in holder whole ≡ n + names_in holder left → left ≡ with_first name v ps → IsFront v (Some h) front → each ≡ names_of_one holder
    → names_in holder whole ≡ n + each + (names_in h.kind (inner_of v) + names_in holder ps)
held_counted holder name v h whole left ps n each front before first f is =
    omega (arith, before, ap (names_in holder) first, first_held_names holder name v ps h front f, is)

-- the pairs inside and what closes them are written
pub closed_written : (whole text inside closed rest more left : List ℕ) → whole ≡ more ++ left → left ≡ text ++ (inside ++ (closed ++ rest))
    → whole ≡ (more ++ (text ++ (inside ++ closed))) ++ rest
closed_written whole text inside closed rest more left before is =
    part_written whole more text (inside ++ closed) left rest before (is ∙ ap (λ x. text ++ x) (sym (append_assoc inside closed rest)))

-- ---- the names are fewer than the bytes

at_most_one : (b : Bool) → (if b then 0 else 1) ≤ 1
at_most_one true = omega arith
at_most_one false = omega arith

pub name_at_most_one : (holder : Kind) → names_of_one holder ≤ 1
name_at_most_one holder = at_most_one (is_array_kind holder)

pub names_le : (holder : Kind) (t : Tree) → names_in holder t ≤ elements_in t
names_le holder no_pairs = omega arith
names_le holder (leaf_pair name k v ps) = omega (arith, names_le holder ps, at_most_one (is_array_kind holder))
names_le holder (inner_pair name k b inner ps) = omega (arith, names_le k inner, names_le holder ps, at_most_one (is_array_kind holder))

-- A value of two parts is written.
pub made_of_two : {E : Type 0} (r : Result (Unit {0}) E) (a b c d e : Option (List ℕ)) (begin one two last : List ℕ)
    → Appends a b begin → Appends b c one → Appends c d two → OnOk r (Appends d e last)
    → OnOk r (Appends a e (begin ++ ((one ++ two) ++ last)))
made_of_two r a b c d e begin one two last p q s t =
    word_first r a b e begin ((one ++ two) ++ last) p (word_first r b d e (one ++ two) last (Appends-trans b c d one two q s) t)
