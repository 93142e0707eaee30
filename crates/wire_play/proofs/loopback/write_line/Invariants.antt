use Rattle.wire_play.specs.Loopback.{AppendsUpTo}
use Rattle.wire_play.proofs.loopback.write_line.Given as goal

abbrev pub invariant-loop : goal.invariant-loop
invariant-loop g l = AppendsUpTo l.rest l.line (g.W.Write.contents l.fn.out) (g.W.Write.contents l.out)
