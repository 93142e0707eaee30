use Rattle.std.proofs.Common.{arith}
use Rattle.bson_elem.proofs.NameLaws.{near_offset}
use Rattle.bson_elem.proofs.text.near_zero.Goals as goal

pub returns-then-byte-eq0 : goal.returns-then-byte-eq0
returns-then-byte-eq0 c = near_offset c.args.bytes.now c.loop-n.n (omega arith) c.loop-n.invariant c.if-byte-eq0.true
