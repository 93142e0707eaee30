-- Frames as items that tell their length.
use Rattle.std.specs.Prelude.{ℕ, Ok}
use Rattle.std.proofs.Common.{arith}
use Rattle.framing.specs.{IsSound, Rule, bounded, bounded_least}
use Rattle.wire_msg.specs.declared.fault.MsgFault.{MsgFault}
use Rattle.wire_msg.specs.declared.fault.MsgCause.TheVariants.{Length}
use Rattle.wire_msg.specs.{msg_fault, number_at}

-- no lead, a header of 16 bytes, and a messageLength of at least these and at most the limit
abbrev pub frame_rule : ℕ → Rule MsgFault
frame_rule limit = record {
  lead = 0;
  check = λ bytes. Ok tt;
  header = 16;
  total = λ bytes. bounded 16 limit (msg_fault 0 Length) (number_at bytes 0);
}

pub frame_sound : (limit : ℕ) → IsSound (frame_rule limit)
frame_sound limit = record {
  some = omega arith;
  begins = omega arith;
  least = λ bytes n is. bounded_least 16 limit (msg_fault 0 Length) (number_at bytes 0) n is;
}
