-- No document begins as a file of records does: its first element would be of a kind that there isn't.
use Rattle.std.proofs.Common.{◌≡◌, ◌+◌, ◌++◌, [], ◌∷◌, ◌∙◌, ℕ, List, ap, arith, drop, length, refl, sym}
use Rattle.std.specs.Prelude.{get_or}
use Rattle.std.proofs.lemmas.List.{drop_at}
use Rattle.bson_elem.specs.declared.kinds.Kind.{Kind}
use Rattle.bson_elem.specs.declared.kinds.Kind.TheVariants.{Null}
use Rattle.bson_elem.specs.Codes.{known, known_kind}
use Rattle.bson_elem.specs.Kinds.{byte_of, kind_of}
use Rattle.bson_elem.specs.Spelling.{Spells, elements, little}
use Rattle.bson_elem.specs.Trees.{Tree, inner_pair, leaf_pair, no_pairs}
use Rattle.wire_frames.specs.{signature}

-- the fifth byte of the signature is that of no kind
no_kind : (k : Kind) → byte_of k ≡ 82 → ⊥
no_kind k is =
    let null : Null ≡ k = ap (λ (n : ℕ). known (kind_of n)) (sym is) ∙ known_kind k in
    let byte : 10 ≡ 82 = ap byte_of null ∙ is in
    omega (arith, byte)

-- no elements, and the 00 behind them, begin with it
no_element : (t : Tree) (bytes : List ℕ) → elements t ++ 0 ∷ [] ≡ 82 ∷ bytes → ⊥
no_element no_pairs bytes is = let byte : 0 ≡ 82 = ap (λ (x : List ℕ). get_or x 0 0) is in omega (arith, byte)
no_element (leaf_pair name k v ps) bytes is = no_kind k (ap (λ (x : List ℕ). get_or x 0 0) is)
no_element (inner_pair name k b inner ps) bytes is = no_kind k (ap (λ (x : List ℕ). get_or x 0 0) is)

pub no_document : (t : Tree) (more : List ℕ) → Spells t (signature ++ more) → ⊥
no_document t more s =
    let rest = elements t ++ 0 ∷ [] in
    let behind : rest ≡ 82 ∷ 69 ∷ 67 ∷ 49 ∷ more = sym (drop_at (little (length (elements t) + 5)) rest 4 refl) ∙ ap (drop 4) (sym s.parts) in
    no_element t (69 ∷ 67 ∷ 49 ∷ more) behind
