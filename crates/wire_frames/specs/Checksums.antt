-- The checksum of an OP_MSG (MongoDB Wire Protocol manual: OP_MSG).
use Rattle.std.specs.Prelude.{◌≡◌, ℕ, pos, ◌-◌, ◌%◌, ◌≤◌, List, length, take}
use Rattle.wire_msg.specs.{header_of, number_at}
use Rattle.wire_frames.specs.declared.checksum.Checksum.{Checksum}
use Rattle.wire_frames.specs.declared.checksum.Checksum.TheVariants.{Absent, Right, Wrong}
use Rattle.wire_frames.specs.Crc32c.{crc32c_of}

-- The frame is an OP_MSG whose flag checksumPresent is set, bit 0 of its flags.
pub record HasChecksum (bytes : List ℕ) : Type 0 where
  pub message : (header_of bytes).opcode ≡ pos 2013
  pub flags : 20 ≤ length bytes
  pub present : number_at bytes 16 % 2 ≡ 1

-- The last four bytes stand behind the flags, and are the CRC-32C of all bytes before them.
pub record IsRightChecksum (bytes : List ℕ) : Type 0 where
  pub behind : 24 ≤ length bytes
  pub is : number_at bytes (length bytes - 4) ≡ crc32c_of (take (length bytes - 4) bytes)

-- the frame has no checksum, a right one, or a wrong one
abbrev pub IsChecksumOf : List ℕ → Checksum → Type 0
IsChecksumOf bytes Absent = HasChecksum bytes → ⊥
IsChecksumOf bytes Right = HasChecksum bytes × IsRightChecksum bytes
IsChecksumOf bytes Wrong = HasChecksum bytes × (IsRightChecksum bytes → ⊥)
