-- Patterns, and texts that are shorter.
use Rattle.std.proofs.Common.{◌≡◌, ◌<◌, ℕ, List, [], ◌∷◌, length, Bool, true, false, cond, ◌&&◌, refl, ◌==◌, arith}
use Rattle.std.specs.Char.{is_ascii_digit}
use Rattle.bson_json_read.specs.Iso.{begins}

and_false : (b c : Bool) → c ≡ false → (b && c) ≡ false
and_false true c e = e
and_false false c e = refl

pub shorter : (ps bs : List ℕ) → length bs < length ps → begins ps bs ≡ false
shorter [] bs n = absurd (omega (n, arith))
shorter (p ∷ ps) [] n = refl
shorter (p ∷ ps) (b ∷ bs) n =
    and_false (cond (p == 48) (is_ascii_digit b) (b == p)) (begins ps bs) (shorter ps bs (omega (n, arith)))
