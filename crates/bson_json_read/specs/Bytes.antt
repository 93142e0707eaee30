-- The bytes that texts write in hexadecimal and in base64.
use Rattle.std.specs.Prelude.{ℕ, List, [], ◌∷◌, filter, length, not, slice_index}
use Rattle.std.specs.Prelude.{Bool, ◌==◌, ◌&&◌, if◌then◌else◌, Option, Some, None}
use Rattle.std.specs.Prelude.{option_and_then}
use Rattle.std.specs.Result.{result_ok}
use Rattle.base64.specs.Engines.{standard}
use Rattle.base64.specs.GeneralPurpose.{decode_of}
use Rattle.hex.specs.Hex.{decode_sized}

-- so many bytes, in hexadecimal
abbrev pub hex_of : ℕ → List ℕ → Option (List ℕ)
hex_of count text = result_ok (decode_sized text count)

-- one byte by one digit or two
abbrev pub two_digits : List ℕ → List ℕ
two_digits (digit ∷ []) = 48 ∷ digit ∷ []
two_digits text = text

abbrev pub first_byte : List ℕ → Option ℕ
first_byte bytes = Some (slice_index bytes 0)

abbrev pub subtype_of : List ℕ → Option ℕ
subtype_of text = option_and_then first_byte (hex_of 1 (two_digits text))

-- the bytes of a text in base64, with its padding
abbrev pub base64_of : List ℕ → Option (List ℕ)
base64_of text = result_ok (decode_of standard text)

-- five groups of digits with a hyphen between two
abbrev pub has_hyphens : List ℕ → Bool
has_hyphens text =
    (length text == 36) && ((slice_index text 8 == 45) && ((slice_index text 13 == 45)
    && ((slice_index text 18 == 45) && (slice_index text 23 == 45))))

abbrev pub is_no_hyphen : ℕ → Bool
is_no_hyphen b = not (b == 45)

abbrev pub without_hyphens : List ℕ → List ℕ
without_hyphens text = filter is_no_hyphen text

-- the 16 bytes of a UUID
abbrev pub uuid_of : List ℕ → Option (List ℕ)
uuid_of text = if has_hyphens text then hex_of 16 (without_hyphens text) else None
