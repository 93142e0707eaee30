use Rattle.std.proofs.Common.{◌++◌, ◌∙◌, arith}
use Rattle.std.proofs.KnownBytes.{Consumes-trans}
use Rattle.file_commands.proofs.source.read_rest.Goals as goal

pub loop-preserved : goal.loop-preserved
loop-preserved g c =
    let i = c.loop.invariant in
    (c.read_once.ensures.size ∙ i.0, omega (arith, c.read_once.ensures.size, i.1), (i.2.0 ++ _, Consumes-trans _ _ _ i.2.0 _ i.2.1 c.in_ok-read_once.ensures.read))
