use Rattle.std.proofs.Common.{◌≡◌}
use Rattle.std.specs.Prelude.{bit_xor}
use Rattle.wire_frames.specs.Crc32c.{crc_steps}
use Rattle.wire_frames.proofs.crc.add_byte.Given as goal

abbrev pub invariant-loop : goal.invariant-loop
invariant-loop l = l.register ≡ crc_steps l.counter (bit_xor l.register-2 l.byte)
