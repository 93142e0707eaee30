-- The JSON of pairs, one after another.
use Rattle.std.proofs.Common.{◌≡◌, ◌++◌, [], ℕ, List, Bool, true, false, refl, sym, ap, subst, ◌∙◌, append_assoc}
use Rattle.bson_elem.specs.declared.kinds.Kind.{Kind}
use Rattle.bson_elem.specs.Trees.{Tree, no_pairs}
use Rattle.bson_elem.specs.Spelling.{Spells}
use Rattle.bson_raw.specs.RawDocument.{document_bytes}
use Rattle.bson_raw.specs.Pairs.{TreeValue, leaf_value, document_value, with_first}
use Rattle.bson_json.specs.declared.mode.Mode.{Mode}
use Rattle.bson_json.specs.declared.held.Held.{Held}
use Rattle.bson_json.specs.Json.{IsPairsJson, closing, comma, label, opening}
use Rattle.bson_json.specs.Walks.{HoldsNone, IsHeld, IsPairFront}

-- four parts, which are joined in one way or in another
joined : (a b c d : List ℕ) → ((a ++ b) ++ c) ++ d ≡ a ++ (b ++ (c ++ d))
joined a b c d = append_assoc (a ++ b) c d ∙ append_assoc a b (c ++ d)

-- a pair whose value holds none, and the pairs after it
pub pairs-leaf : (mode : Mode) (holder : Kind) (first : Bool) (name : List ℕ) (v : TreeValue) (ps : Tree) (front rest : List ℕ)
    → HoldsNone v → IsPairFront mode holder first name v front → IsPairsJson mode holder false ps rest
    → IsPairsJson mode holder first (with_first name v ps) (front ++ rest)
pairs-leaf mode holder first name (leaf_value k leaf) ps front rest none p q =
    (p.0, rest, p.1, q, ap (λ x. x ++ rest) p.2 ∙ joined (comma first) (label holder name) p.0 rest)
pairs-leaf mode holder first name (document_value k b inner) ps front rest none p q = absurd none

-- a pair whose value holds some, those, and the pairs after it
pub pairs-held : (mode : Mode) (holder : Kind) (first : Bool) (name : List ℕ) (v : TreeValue) (held : Held) (inner ps : Tree)
    (front inside rest : List ℕ) → IsHeld v held inner → IsPairFront mode holder first name v front
    → IsPairsJson mode held.kind true inner inside → IsPairsJson mode holder false ps rest
    → IsPairsJson mode holder first (with_first name v ps) (front ++ (inside ++ (closing held.kind ++ rest)))
pairs-held mode holder first name (leaf_value k leaf) held inner ps front inside rest h p q r = absurd h
pairs-held mode holder first name (document_value k b i) held inner ps front inside rest h p q r =
    let same : IsPairsJson mode k true i inside = subst (λ x. IsPairsJson mode k true x inside) (sym h.1) (subst (λ x. IsPairsJson mode x true inner inside) h.0 q) in
    let closed : closing held.kind ≡ closing k = ap closing h.0 in
    let front_is : front ≡ (comma first ++ label holder name) ++ opening k b = p.2 ∙ ap (λ x. (comma first ++ label holder name) ++ x) p.1 in (
      inside,
      rest,
      same,
      r,
      ap (λ x. front ++ (inside ++ (x ++ rest))) closed
          ∙ ap (λ x. x ++ (inside ++ (closing k ++ rest))) front_is
          ∙ joined (comma first) (label holder name) (opening k b) (inside ++ (closing k ++ rest)),
    )

-- the document spells the pairs that the value holds
pub held_spelled : (v : TreeValue) (held : Held) (inner : Tree) → IsHeld v held inner → Spells inner (document_bytes held.document)
held_spelled (leaf_value k leaf) held inner h = absurd h
held_spelled (document_value k b i) held inner h = h.2

-- no pairs are left
pub pairs-none : (mode : Mode) (holder : Kind) (first : Bool) → IsPairsJson mode holder first no_pairs []
pairs-none mode holder first = refl

-- five parts, which are joined in one way or in another
pub regrouped : (a b c d e : List ℕ) → (a ++ (b ++ (c ++ d))) ++ e ≡ a ++ (b ++ (c ++ (d ++ e)))
regrouped a b c d e =
    append_assoc a (b ++ (c ++ d)) e ∙ ap (λ x. a ++ x) (append_assoc b (c ++ d) e ∙ ap (λ x. b ++ x) (append_assoc c d e))
