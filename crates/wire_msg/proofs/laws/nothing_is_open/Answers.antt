use Rattle.std.proofs.Common.{arith}
use Rattle.wire_msg.specs.Standing.{in_header}
use Rattle.wire_msg.proofs.laws.nothing_is_open.Goals as goal

pub returns : goal.returns
returns c = λ limit. in_header (omega arith)
