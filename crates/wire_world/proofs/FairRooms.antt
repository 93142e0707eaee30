-- The room of lists that grow.
use Rattle.std.proofs.Common.{◌≡◌, ℕ, ◌+◌, Bool, true, false, nat_lt, arith, refl}
use Rattle.std.proofs.lemmas.Bool.Decides.{nat_tests}
use Rattle.wire_peer.specs.{IsGrown}
use Rattle.wire_world.specs.Rooms.{IsFair}

-- room that is taken for one more
pub fair_grown : (count old new : ℕ) → IsGrown count old new → IsFair count old → IsFair count new
fair_grown count old new grown fair = by (nat_lt count old) refl
  where
    by : (b : Bool) → nat_lt count old ≡ b → IsFair count new
    by true e = let same = grown.stays (grind (arith, nat_tests, e)) in omega (arith, same, fair)
    by false e = grown.doubles (grind (arith, nat_tests, e))

-- one more in the same room
pub fair_more : (count room : ℕ) → IsFair count room → IsFair (count + 1) room
fair_more count room fair = omega (arith, fair)

-- the same, of the numbers that the code counts
pub fair_added : (count count' count'' old room room' : ℕ) → IsGrown count old room → IsFair count old → count' ≡ count → count'' ≡ count' + 1 → room' ≡ room → IsFair count'' room'
fair_added count count' count'' old room room' grown fair same more stays =
    let mid = fair_grown count old room grown fair in
    let less = fair_more count room mid in
    omega (arith, less, same, more, stays)
