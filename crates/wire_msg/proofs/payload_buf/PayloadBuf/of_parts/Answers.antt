use mathlib.Core.Logic.{∥∥₁_map}
use Rattle.std.proofs.Common.{[]}
use Rattle.wire_msg.proofs.OffsetLaws.{last_known}
use Rattle.wire_msg.proofs.payload_buf.PayloadBuf.of_parts.Goals as goal

pub last_offset-last-requires : goal.last_offset-last-requires
last_offset-last-requires c = rw c.deref.ensures.value (∥∥₁_map c.requires (last_known [] c.args.body.items c.args.sequences.items))
