use Rattle.std.specs.Io.KnownBytes.{Keeps}
use Rattle.command_run.specs.Buffered.{buffered_contents}
use Rattle.command_run.proofs.buffered.Buffered.pass_on_all.Given as goal

abbrev pub invariant-loop : goal.invariant-loop
invariant-loop g l = Keeps (buffered_contents g.W.Write.contents l.initial.self) (buffered_contents g.W.Write.contents l.self)
