use Rattle.wire_msg.proofs.FaultOffsets.{header_offset}
use Rattle.wire_msg.proofs.laws.header_fault_offset.Goals as goal

pub returns : goal.returns
returns c = header_offset
