use Rattle.std.proofs.Common.{inl, refl, arith}
use Rattle.wire_msg.specs.Standing.{in_header}
use Rattle.wire_stream.proofs.reader.MsgReader.new.Goals as goal

pub invariant_of-result : goal.invariant_of-result
invariant_of-result c = record { limit = c.requires; whole = refl; state = in_header (omega arith); kept = inl (omega arith) }
