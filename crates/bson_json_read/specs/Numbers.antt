-- The numbers that texts write.
use Rattle.std.specs.Prelude.{ℕ, ℤ, pos, negsuc, ◌^◌, Bool, true, false, List, length, codes}
use Rattle.std.specs.Prelude.{Option, Some, None, nat_lt, ◌&&◌, if◌then◌else◌, option_and_then}
use Rattle.std.specs.List.{list_all}
use Rattle.std.specs.Char.{is_digit}
use Rattle.std.specs.Str.{bytes_eq}
use Rattle.std.specs.Str.Parse.{digits_value, signed_digits_value, without_leading_plus}
use Rattle.std.specs.Str.Parse.{without_leading_sign}
use Rattle.std.specs.Float.{Float, binary64, float_is_finite}
use Rattle.std.specs.Float.Ieee.{nan, inf}
use Rattle.std.specs.Float.Parse.{parse_float}

-- ---- integers

abbrev pub is_decimal : ℕ → Bool
is_decimal c = is_digit c 10

-- decimal digits, and at least one
abbrev pub is_numeral : List ℕ → Bool
is_numeral text = nat_lt 0 (length text) && list_all is_decimal text

-- at least - half, and below half
abbrev pub fits : ℕ → ℤ → Bool
fits half (pos n) = nat_lt n half
fits half (negsuc n) = nat_lt n half

-- digits behind at most one sign, and a number that fits
abbrev pub is_integer : ℕ → List ℕ → Bool
is_integer half text =
    is_numeral (without_leading_sign text) && fits half (signed_digits_value 10 text)

-- the integer that the text writes, if it is at least - half and below half
abbrev pub integer_of : ℕ → List ℕ → Option ℤ
integer_of half text = if is_integer half text then Some (signed_digits_value 10 text) else None

-- digits, and a number below 2 ^ 32
abbrev pub is_unsigned : List ℕ → Bool
is_unsigned text =
    is_numeral (without_leading_plus text)
    && nat_lt (digits_value 10 (without_leading_plus text)) (2 ^ 32)

abbrev pub unsigned_of : List ℕ → Option ℕ
unsigned_of text =
    if is_unsigned text then Some (digits_value 10 (without_leading_plus text)) else None

-- ---- doubles

abbrev pub if_finite : Float → Option Float
if_finite x = if float_is_finite x then Some x else None

-- the double nearest to the number, if it is finite
abbrev pub finite_of : List ℕ → Option Float
finite_of text = option_and_then if_finite (parse_float binary64 text)

-- the double that a text names or writes
abbrev pub double_of_text : List ℕ → Option Float
double_of_text text =
    if bytes_eq text (codes "NaN") then Some nan
    else if bytes_eq text (codes "Infinity") then Some (inf false)
    else if bytes_eq text (codes "-Infinity") then Some (inf true)
    else finite_of text
