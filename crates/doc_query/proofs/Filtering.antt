-- Filters, one field after another.
use Rattle.std.proofs.Common.{◌≡◌, ◌<◌, ℕ, suc, ◌+◌, Bool, true, false, not, ◌&&◌, List, [], ◌∷◌, Option, Some, None, length, map, drop, get_or, refl, sym, ap, ◌∙◌, add-one}
use mathlib.Core.Bool.{beq}
use Rattle.std.specs.Prelude.{if◌then◌else◌}
use Rattle.std.specs.Option.{option_or}
use Rattle.std.specs.Str.{bytes_eq}
use Rattle.std.proofs.lemmas.Slice.Eq.{bytes_eq-Decides}
use Rattle.std.proofs.Math.Seq.{drop-cons}
use Rattle.bson_elem.specs.{Tree}
use Rattle.bson_raw.specs.{TreeValue, document_value, first_named, leaf_value, with_first}
use Rattle.bson_doc.specs.Array.{array_tree}
use Rattle.bson_doc.specs.declared.bson_values.Bson.{Bson}
use Rattle.bson_doc.specs.Bson.{value_of}
use Rattle.bson_doc.specs.Document.{tree_of, value_named}
use Rattle.doc_query.specs.declared.failure.CommandError.{CommandError}
use Rattle.doc_query.specs.declared.logical.Logical.{Logical}
use Rattle.doc_query.specs.declared.logical.Logical.TheVariants as logicals
use Rattle.doc_query.specs.declared.logical.Purpose.{Purpose}
use Rattle.doc_query.specs.Filters.{array_fault, begins_with_operator, clause_fault, clauses_fault, filter_fault, found, has_clause, has_clauses, has_fields, has_pair, is_operator, joined, joined_none, matches, value_fault}

pub begins_first : (name : List ℕ) (v : TreeValue) (others : Tree) → begins_with_operator (with_first name v others) ≡ is_operator name
begins_first name (leaf_value k v) others = refl
begins_first name (document_value k b t) others = refl

pub filter_fault-with_first : (name : List ℕ) (v : TreeValue) (others : Tree) → filter_fault (with_first name v others) ≡ option_or (value_fault name v) (filter_fault others)
filter_fault-with_first name (leaf_value k v) others = refl
filter_fault-with_first name (document_value k b t) others = refl

pub has_fields-with_first : (name : List ℕ) (v : TreeValue) (others : Tree) (p : Purpose) (t : Tree) → has_fields (with_first name v others) p t ≡ (has_pair name v p t && has_fields others p t)
has_fields-with_first name (leaf_value k v) others p t = refl
has_fields-with_first name (document_value k b inner) others p t = refl

-- ---- the clauses of a logical operator, as a list

abbrev pub first_fault : List TreeValue → Option CommandError
first_fault [] = None
first_fault (v ∷ vs) = option_or (clause_fault v) (first_fault vs)

clauses_fault_is : (i : ℕ) (vs : List TreeValue) → clauses_fault (array_tree i vs) ≡ first_fault vs
clauses_fault_is i [] = refl
clauses_fault_is i (leaf_value k v ∷ vs) = refl
clauses_fault_is i (document_value k b f ∷ vs) = ap (option_or (clause_fault (document_value k b f))) (clauses_fault_is (i + 1) vs)

some_fault_is : (v : TreeValue) (vs : List TreeValue) → array_fault (array_tree 0 (v ∷ vs)) ≡ first_fault (v ∷ vs)
some_fault_is (leaf_value k v) vs = refl
some_fault_is (document_value k b f) vs = clauses_fault_is 0 (document_value k b f ∷ vs)

pub array_fault_is : (bs : List Bson) → (length bs ≡ 0 → ⊥) → array_fault (array_tree 0 (map value_of bs)) ≡ first_fault (map value_of bs)
array_fault_is [] some = absurd (some refl)
array_fault_is (b ∷ bs) some = some_fault_is (value_of b) (map value_of bs)

abbrev pub clauses_hold : Logical → Purpose → Tree → List TreeValue → Bool
clauses_hold l p t [] = joined_none l
clauses_hold l p t (v ∷ vs) = joined l (has_clause v p t) (clauses_hold l p t vs)

pub has_clauses_is : (i : ℕ) (vs : List TreeValue) (l : Logical) (p : Purpose) (t : Tree) → has_clauses (array_tree i vs) l p t ≡ clauses_hold l p t vs
has_clauses_is i [] l p t = refl
has_clauses_is i (leaf_value k v ∷ vs) l p t = ap (joined l false) (has_clauses_is (i + 1) vs l p t)
has_clauses_is i (document_value k b f ∷ vs) l p t = ap (joined l (has_clause (document_value k b f) p t)) (has_clauses_is (i + 1) vs l p t)

-- a clause that is otherwise than no clauses settles it, and one that isn't leaves it to the others
pub settled : (l : Logical) (a b otherwise : Bool) → not (beq a otherwise) ≡ true → otherwise ≡ joined_none l → joined l a b ≡ not otherwise
settled logicals.And true b true d e = absurd cc
settled logicals.And false b true d e = refl
settled logicals.And a b false d e = absurd cc
settled logicals.Or a b true d e = absurd cc
settled logicals.Or true b false d e = refl
settled logicals.Or false b false d e = absurd cc

pub left_open : (l : Logical) (a b otherwise : Bool) → not (beq a otherwise) ≡ false → otherwise ≡ joined_none l → joined l a b ≡ b
left_open logicals.And true b true d e = refl
left_open logicals.And false b true d e = absurd cc
left_open logicals.And a b false d e = absurd cc
left_open logicals.Or a b true d e = absurd cc
left_open logicals.Or true b false d e = absurd cc
left_open logicals.Or false b false d e = refl

same_test : (p q : Bool) → (p ≡ true → q ≡ true) → (q ≡ true → p ≡ true) → p ≡ q
same_test true q f g = sym (f refl)
same_test false true f g = g refl
same_test false false f g = refl

pub turned : (a b : List ℕ) → bytes_eq a b ≡ bytes_eq b a
turned a b = same_test (bytes_eq a b) (bytes_eq b a)
    (λ e. (bytes_eq-Decides b a).1 (sym ((bytes_eq-Decides a b).0 e)))
    (λ e. (bytes_eq-Decides a b).1 (sym ((bytes_eq-Decides b a).0 e)))

-- the first value of a name in the tree of some pairs
pub first_in_tree : (name : List ℕ) (ps : List (List ℕ × TreeValue)) → first_named name (tree_of ps) ≡ value_named name ps
first_in_tree name [] = refl
first_in_tree name ((n, leaf_value k v) ∷ ps) =
    ap (λ (b : Bool). if b then Some (leaf_value k v) else first_named name (tree_of ps)) (turned n name)
    ∙ ap (λ (o : Option TreeValue). if bytes_eq name n then Some (leaf_value k v) else o) (first_in_tree name ps)
first_in_tree name ((n, document_value k b t) ∷ ps) =
    ap (λ (b' : Bool). if b' then Some (document_value k b t) else first_named name (tree_of ps)) (turned n name)
    ∙ ap (λ (o : Option TreeValue). if bytes_eq name n then Some (document_value k b t) else o) (first_in_tree name ps)

-- the documents from an index on that match
pub found_from : (f : Tree) (vs : List Bson) (i : ℕ) (v : Bson) → i < length vs → v ≡ get_or vs i v
    → found f (map value_of (drop i vs)) ≡ (if matches f (value_of v) then value_of v ∷ found f (map value_of (drop (i + 1) vs)) else found f (map value_of (drop (i + 1) vs)))
found_from f vs i v inside is =
    ap (λ (l : List Bson). found f (map value_of l)) (drop-cons vs i v inside ∙ ap (λ (y : Bson). y ∷ drop (suc i) vs) (sym is) ∙ ap (λ (j : ℕ). v ∷ drop j vs) (sym (add-one i)))
