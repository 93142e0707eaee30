-- Indentation, level by level.
use Rattle.std.proofs.Common.{◌≡◌, ◌+◌, ◌++◌, ℕ, List, Option, zero, suc, ap, refl, codes, arith}
use Rattle.std.specs.Io.KnownBytes.{Appends}
use Rattle.std.proofs.KnownBytes.{Appends-trans}
use Rattle.bson_text.specs.Text.{indent}

-- two more spaces
pub indent-suc : (n : ℕ) → indent (suc n) ≡ indent n ++ codes "  "
indent-suc zero = refl
indent-suc (suc n) = ap (λ t. codes "  " ++ t) (indent-suc n)

-- a write after the level n
pub one_level : (a b c : Option (List ℕ)) (n : ℕ) → Appends a b (indent n) → Appends b c (codes "  ") → Appends a c (indent (n + 1))
one_level a b c n p q =
    let next : n + 1 ≡ suc n = omega arith in
    rw (next, indent-suc n) (Appends-trans a b c _ _ p q)
