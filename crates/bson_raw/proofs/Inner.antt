-- A document inside another is a document.
use Rattle.std.proofs.Common.{ℕ, ◌+◌, ◌≤◌, arith}
use Rattle.bson_elem.specs.Trees.{Tree, no_pairs, leaf_pair, inner_pair}
use Rattle.bson_elem.specs.Spelling.{Fits}

-- what fits in a container fits in one that is less deep
pub fits_shallower : (t : Tree) (depth less : ℕ) → less ≤ depth → Fits depth t → Fits less t
fits_shallower no_pairs depth less le f = tt
fits_shallower (leaf_pair name k v ps) depth less le f = (f.0, f.1, fits_shallower ps depth less le f.2)
fits_shallower (inner_pair name k b inner ps) depth less le f = (f.0, f.1, omega (arith, f.2, le), f.3, fits_shallower inner (depth + 1) (less + 1) (omega (arith, le)) f.4, fits_shallower ps depth less le f.5)
