use Rattle.std.proofs.Common.{[], ◌∙◌}
use mathlib.Core.Logic.{∥∥₁_map}
use Rattle.wire_msg.proofs.BufLaws.{copied_payload, parts_spelled}
use Rattle.wire_msg.proofs.payload_buf.PayloadBuf.as_payload.Goals as goal

pub from_spelled-body-requires : goal.from_spelled-body-requires
from_spelled-body-requires c = rw c.deref.ensures.value (∥∥₁_map c.args.self.now.valid (parts_spelled [] c.args.self.now.body.items c.args.self.now.sequences.items))

pub of_parts-requires : goal.of_parts-requires
of_parts-requires c = ∥∥₁_map c.args.self.now.valid (copied_payload [] c.args.self.now.body.items c.args.self.now.sequences.items _ _ (c.from_spelled-body.ensures ∙ c.deref.ensures.value) c.deref-2.ensures.value)
