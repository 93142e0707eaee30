use Rattle.wire_peer.proofs.CountLaws.{one_pair, one_pair_spelled}
use Rattle.wire_peer.proofs.counting.push_number.Goals as goal

-- src/counting.rt:50:29
pub from_spelled-requires : goal.from_spelled-requires
from_spelled-requires c = ∣ (one_pair c.args.number, one_pair_spelled c.args.number c.ranges.number.fits) ∣₁

-- src/counting.rt:44:1
pub returns-in-Ok-clause-added : goal.returns-in-Ok-clause-added
returns-in-Ok-clause-added c = c.in-Ok.ensures.added (one_pair c.args.number) (rw c.from_spelled.ensures (one_pair_spelled c.args.number c.ranges.number.fits))
