use Rattle.std.proofs.Common.{◌≡◌, ◌-◌, ◌^◌, take}
use Rattle.std.specs.Prelude.{fold}
use Rattle.wire_frames.specs.Crc32c.{crc_byte}
use Rattle.wire_frames.proofs.crc.crc32c.Given as goal

abbrev pub invariant-loop-byte : goal.invariant-loop-byte
invariant-loop-byte l = l.register ≡ fold crc_byte (2 ^ 32 - 1) (take l.byte-index l.bytes)
