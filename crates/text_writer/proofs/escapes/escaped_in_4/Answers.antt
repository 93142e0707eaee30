use Rattle.std.proofs.Common.{arith}
use Rattle.text_writer.proofs.Lanes.{first_in_lanes, none_in_lanes}
use Rattle.text_writer.proofs.escapes.escaped_in_4.Goals as goal

pub returns-then-mask-eq0 : goal.returns-then-mask-eq0
returns-then-mask-eq0 c =
    none_in_lanes c.args.bytes.now c.args.at 4 c.requires.0 (omega arith) c.type_inv.bytes c.requires.1 c.if-mask-eq0.true

pub returns : goal.returns
returns c =
    (first_in_lanes c.args.bytes.now c.args.at 4 c.requires.0 (omega arith) c.type_inv.bytes c.requires.1 c.if-mask-eq0.false).1
