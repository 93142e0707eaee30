-- The bytes that an input stands for: its own, or with `--hex` those that its text spells.
use Rattle.std.specs.Prelude.{◌≡◌, ℕ, ◌+◌, ◌*◌, ◌%◌, ◌==◌, ◌||◌, Bool, true, false, not, List, []}
use Rattle.std.specs.Prelude.{◌∷◌, ◌<◌, IfSome, filter, length, if◌then◌else◌, Option, None, Some}
use Rattle.std.specs.Char.{digit_value, is_digit}
use Rattle.std.specs.List.{position_from}
use Rattle.file_commands.specs.declared.hex_input.HexText.{HexText}

-- ---- hexadecimal text

-- a space, a tab, a line feed or a carriage return
abbrev pub is_space : ℕ → Bool
is_space b = b == 32 || (b == 9 || (b == 10 || b == 13))

-- the text with its white space taken out
abbrev pub packed : List ℕ → List ℕ
packed text = filter (λ b. not (is_space b)) text

-- no hexadecimal digit, in either case
abbrev pub is_other : ℕ → Bool
is_other b = not (is_digit b 16)

-- the bytes that digits spell, two each; a last digit that is alone spells none
abbrev pub pairs : List ℕ → List ℕ
pairs [] = []
pairs (high ∷ []) = []
pairs (high ∷ (low ∷ digits)) = (digit_value high * 16 + digit_value low) ∷ pairs digits

-- the place at which packed text is at fault: how many bytes it has, if they are odd; else that of
-- the first that is no digit, if there is one
abbrev pub fault_of : List ℕ → Option ℕ
fault_of text =
    if length text % 2 == 1 then Some (length text) else position_from is_other 0 text

-- ---- an input

-- the bytes that an input stands for, where it isn't text at fault
abbrev pub bytes_of : Bool → List ℕ → List ℕ
bytes_of false input = input
bytes_of true input = pairs (packed input)

-- the fault of an input as hexadecimal text, if it is one, counted without the white space
abbrev pub hex_fault : Bool → List ℕ → Option ℕ
hex_fault false input = None
hex_fault true input = fault_of (packed input)

-- ---- hexadecimal text that comes in pieces

-- the value of the last digit, if it is alone
abbrev pub half_of : List ℕ → Option ℕ
half_of [] = None
half_of (high ∷ []) = Some (digit_value high)
half_of (high ∷ (low ∷ digits)) = half_of digits

-- Packed text was decoded: how many bytes it has, the place of the first that is no digit, and if
-- there is none, what the digits spell.
pub record IsDecoded (hex : HexText) (text : List ℕ) : Type 0 where
  pub count : hex.count ≡ length text
  pub other : hex.other ≡ position_from is_other 0 text
  pub bytes : hex.other ≡ None → hex.bytes.items ≡ pairs text
  pub high : hex.other ≡ None → hex.high ≡ half_of text
  pub half : IfSome hex.high (λ high. high < 16)

-- the value of the digit that is alone, once a digit with this value came behind one that was
-- alone, or behind none
abbrev pub half_behind : Option ℕ → ℕ → Option ℕ
half_behind None digit = Some digit
half_behind (Some high) digit = None

-- the byte that it completes then, if it does
abbrev pub byte_behind : Option ℕ → ℕ → List ℕ
byte_behind None digit = []
byte_behind (Some high) digit = (high * 16 + digit) ∷ []
