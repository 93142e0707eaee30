use Rattle.std.proofs.Common.{arith}
use Rattle.wire_peer.proofs.MarkLaws.{count_full}
use Rattle.wire_peer.proofs.free_id.first_unmarked.Goals as goal

pub unreachable-requires : goal.unreachable-requires
unreachable-requires c = omega (arith, c.requires, count_full c.args.marks.now (λ k lt. c.loop-place.invariant k (omega arith)))
