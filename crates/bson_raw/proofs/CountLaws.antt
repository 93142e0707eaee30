-- A count of elements is small.
use Rattle.std.proofs.Common.{ℕ, ◌≤◌, List, length, arith, Fits, w64}
use Rattle.bson_elem.specs.Trees.{Tree, no_pairs, leaf_pair, inner_pair}
use Rattle.bson_elem.specs.Spelling.{Spells}
use Rattle.bson_raw.specs.Spelled.{IsSpelled}
use Rattle.bson_raw.specs.Pairs.{names_of}
use Rattle.bson_raw.specs.Totals.{elements_in}
use Rattle.bson_raw.proofs.TotalLaws.{totals_fit}

-- a number that is at most the count of a document's elements fits 64 bits
pub count_fits : (n : ℕ) (bytes : List ℕ) → ∥ IsSpelled bytes ∥₁ → ((t : Tree) → Spells t bytes → n ≤ elements_in t) → Fits w64 n
count_fits n bytes spelled below = totals_fit n bytes spelled (λ t s. omega (arith, below t s))

-- no more pairs than elements
pub length-names_of-le : (t : Tree) → length (names_of t) ≤ elements_in t
length-names_of-le no_pairs = omega arith
length-names_of-le (leaf_pair name k v ps) = omega (arith, length-names_of-le ps)
length-names_of-le (inner_pair name k b inner ps) = omega (arith, length-names_of-le ps)
