use Rattle.std.proofs.Common.{arith, eqb-true}
use Rattle.byte_views.proofs.PlainBytes.{plain_lanes}
use Rattle.byte_views.proofs.build.plain.are_plain_8.Goals as goal

pub returns : goal.returns
returns c = λ e. plain_lanes c.args.bytes.now c.args.at 8 c.requires (omega arith) c.type_inv.bytes (eqb-true _ _ e)
