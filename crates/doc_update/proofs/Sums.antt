-- Sums that fit an int32 or an int64, or don't.
use Rattle.std.proofs.Common.{◌≡◌, ◌<◌, ℕ, ℤ, pos, negsuc, FitsSigned, true, false, arith}
use Rattle.std.specs.Prelude.{nat_lt}
use Rattle.std.specs.Int.{w32, w64}
use Rattle.std.proofs.lemmas.Bool.Decides.{nat_tests}
use Rattle.doc_update.specs.Increments.{is_within}

less : (n b : ℕ) → n < b → nat_lt n b ≡ true
less n b h = grind (arith, nat_tests)

not_less : (n b : ℕ) → (n < b → ⊥) → nat_lt n b ≡ false
not_less n b h = grind (arith, nat_tests)

pub fits_short : (z : ℤ) → FitsSigned w32 z → is_within 2147483648 z ≡ true
fits_short (pos n) h = less n 2147483648 h.sfits
fits_short (negsuc n) h = less n 2147483648 h.sfits

pub fits_no_short : (z : ℤ) → (FitsSigned w32 z → ⊥) → is_within 2147483648 z ≡ false
fits_no_short (pos n) h = not_less n 2147483648 (λ p. h (record { sfits = p }))
fits_no_short (negsuc n) h = not_less n 2147483648 (λ p. h (record { sfits = p }))

pub fits_long : (z : ℤ) → FitsSigned w64 z → is_within 9223372036854775808 z ≡ true
fits_long (pos n) h = less n 9223372036854775808 h.sfits
fits_long (negsuc n) h = less n 9223372036854775808 h.sfits

pub fits_no_long : (z : ℤ) → (FitsSigned w64 z → ⊥) → is_within 9223372036854775808 z ≡ false
fits_no_long (pos n) h = not_less n 9223372036854775808 (λ p. h (record { sfits = p }))
fits_no_long (negsuc n) h = not_less n 9223372036854775808 (λ p. h (record { sfits = p }))
