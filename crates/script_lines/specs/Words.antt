-- What a word of a line may be.
use Rattle.std.specs.Prelude.{◌≡◌, ℕ, ◌<◌, ◌≤◌, List, length, Ok}
use Rattle.std.specs.Str.Parse.{IsNumeral, digits_value}
use Rattle.hex.specs.Hex.{decode_of}

-- the word is 1 to 20 decimal digits, and they spell this number, which is below the bound
pub record IsNumber (bound : ℕ) (word : List ℕ) (n : ℕ) : Type 0 where
  pub digits : IsNumeral 10 word
  pub short : length word ≤ 20
  pub value : n ≡ digits_value 10 word
  pub fits : n < bound

-- the word spells the bytes, in two hexadecimal digits each
abbrev pub IsHex : List ℕ → List ℕ → Type 0
IsHex word bytes = decode_of word ≡ Ok bytes
