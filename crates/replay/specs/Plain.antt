-- The bytes of a message without its checksum.
use Rattle.std.specs.Prelude.{◌-◌, ◌++◌, ℕ, List, [], ◌∷◌, bit_and, drop, if◌then◌else◌, length}
use Rattle.std.specs.Prelude.{nat_lt, slice_index, slice_set, take}
use Rattle.std.specs.Int.{w64, to_le_bytes}
use Rattle.replay.specs.Flags.{has_flag}

-- the bytes with this number as their messageLength, if they have one
abbrev pub with_length : ℕ → List ℕ → List ℕ
with_length n bytes =
    if nat_lt (length bytes) 4 then bytes else take 4 (to_le_bytes w64 n) ++ drop 4 bytes

-- the bytes without the flag checksumPresent, if they have flags
abbrev pub with_no_flag : List ℕ → List ℕ
with_no_flag bytes =
    if nat_lt 16 (length bytes) then slice_set bytes 16 (bit_and (slice_index bytes 16) 254)
    else bytes

-- the bytes of a message with a checksum, its last four bytes, as those of the same one without
abbrev pub without_checksum : List ℕ → List ℕ
without_checksum bytes =
    let n = length bytes - 4 in with_no_flag (with_length n (take n bytes))

-- the bytes of a message, without the checksum if it has one
abbrev pub plain_bytes : List ℕ → List ℕ
plain_bytes bytes = if has_flag 1 bytes then without_checksum bytes else bytes
