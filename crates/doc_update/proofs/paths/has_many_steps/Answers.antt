use Rattle.std.proofs.Common.{◌≤◌, length, arith}
use Rattle.doc_update.proofs.PathCounts.{many_steps}
use Rattle.doc_update.proofs.paths.has_many_steps.Goals as goal

pub returns : goal.returns
returns c =
    let past : length c.args.path.now ≤ c.loop-byte.byte-index = omega arith in
    many_steps c.args.path.now c.loop-byte.byte-index c.loop-byte.dots past c.loop-byte.invariant.counted
