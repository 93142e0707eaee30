-- What the matches of a command line hold.
use Rattle.std.specs.Prelude.{◌≡◌, ℕ, List, Bool, false, IfSome, Option, Some, None, codes}
use Rattle.std.specs.Option.{option_map_or}
use Rattle.std.specs.Str.{bytes_eq}
use Rattle.std.specs.Str.Parse.{IsNumeral, digits_value, without_leading_plus}
use Rattle.clap.specs.Words.{IsUnsignedIn, Row, Text, one_of}

-- whether the matches hold the flag of this name, which was given
abbrev pub was_given : Text → List Row → Bool
was_given name rows = option_map_or (λ text. bytes_eq text (codes "true")) (one_of name rows) false

-- the text is this number in decimal digits, maybe after a plus
abbrev pub IsNumber : ℕ → Text → Type 0
IsNumber n text =
    IsNumeral 10 (without_leading_plus text) × (digits_value 10 (without_leading_plus text) ≡ n)

-- there is a number where there is a text, and it is that of the text
abbrev pub AsksFor : Option ℕ → Option Text → Type 0
AsksFor given None = given ≡ None
AsksFor None (Some text) = ⊥
AsksFor (Some n) (Some text) = IsNumber n text

-- the number is that of the text; without a text it is the greatest number
abbrev pub AsksForMany : ℕ → Option Text → Type 0
AsksForMany n None = n ≡ 18446744073709551615
AsksForMany n (Some text) = IsNumber n text

-- if they hold what the option of this name gives, it is a number of 64 bits
abbrev pub HasNumber : Text → List Row → Type 0
HasNumber name rows = IfSome (one_of name rows) (IsUnsignedIn 0 18446744073709551615)
