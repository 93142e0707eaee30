-- The doubles that aren't finite, by their bits.
use Rattle.std.proofs.Common.{◌≡◌, true, false, refl}
use lib.Ieee.{binary64, inf, nan, of_bits}

pub nan_bits_are : of_bits binary64 9221120237041090560 ≡ nan
unfolding of_bits
nan_bits_are = refl

pub infinity_bits_are : of_bits binary64 9218868437227405312 ≡ inf false
unfolding of_bits
infinity_bits_are = refl

pub negative_infinity_bits_are : of_bits binary64 18442240474082181120 ≡ inf true
unfolding of_bits
negative_infinity_bits_are = refl
