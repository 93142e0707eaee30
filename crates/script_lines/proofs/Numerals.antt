-- Words of decimal digits.
use Rattle.std.proofs.Common.{ℕ, List, length, ◌≡◌, Bor, Result, Ok, Err, None, arith}
use Rattle.std.specs.Prelude.{MatchResult}
use Rattle.std.specs.Result.{result_ok}
use Rattle.std.specs.Str.{IsUtf8}
use Rattle.std.specs.Str.Parse.{IsNumeral}
use Rattle.std.proofs.lemmas.Str.{IsUtf8-from_ascii}
use Rattle.std.proofs.lemmas.Str.Ascii.{IsAscii-from_reads}
use Rattle.std.proofs.lemmas.Str.Parse.{digit_at}

-- they are a text
pub numeral_is_text : (word : List ℕ) → IsNumeral 10 word → IsUtf8 word
numeral_is_text word numeral = IsUtf8-from_ascii word (IsAscii-from_reads word (length word) (omega arith) (λ k lt. omega (arith, digit_at word k numeral.1 lt)))

-- bytes that weren't read as a text aren't one
pub no_text : {E : Type 0} (word : List ℕ) (r : Result (Bor (List ℕ)) E) (V : E → Type 0) → MatchResult r (λ s. (s.now ≡ word) × IsUtf8 word) (λ e. ¬ (IsUtf8 word) × V e) → result_ok r ≡ None → ¬ (IsUtf8 word)
no_text word (Ok s) V h none = absurd cc
no_text word (Err e) V h none = h.0
