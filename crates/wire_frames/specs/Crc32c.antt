-- CRC-32C, the cyclic redundancy check by Castagnoli's polynomial (RFC 3720, section 12.1), as a
-- register of 32 bits computes it that takes each byte lowest bit first. Polynomials are added bit
-- by bit, without carry, which is the exclusive or.
use Rattle.std.specs.Prelude.{ℕ, zero, suc, ◌-◌, ◌/◌, ◌%◌, ◌^◌, ◌==◌, List, bit_xor, fold}
use Rattle.std.specs.Prelude.{if◌then◌else◌}
use Rattle.std.specs.Int.{w32, bit_not}

-- the polynomial 1EDC6F41, whose lowest power is in the highest bit
abbrev pub castagnoli : ℕ
castagnoli = 0x82F63B78

-- the register after its lowest bit has left, where the polynomial is added if that bit was 1
abbrev pub crc_step : ℕ → ℕ
crc_step r = if r % 2 == 1 then bit_xor (r / 2) castagnoli else r / 2

-- the register after this many bits
abbrev pub crc_steps : ℕ → ℕ → ℕ
crc_steps zero r = r
crc_steps (suc n) r = crc_step (crc_steps n r)

-- the register after a byte, which is added to its lowest eight bits
abbrev pub crc_byte : ℕ → ℕ → ℕ
crc_byte r byte = crc_steps 8 (bit_xor r byte)

-- the register begins with all bits set, and each of its bits is inverted at the end
abbrev pub crc32c_of : List ℕ → ℕ
crc32c_of bytes = bit_not w32 (fold crc_byte (2 ^ 32 - 1) bytes)
