use Rattle.std.proofs.Common.{◌≡◌}
use Rattle.replay.specs.MatchingRuns.{DoesSome}
use Rattle.replay.specs.Matchings.{seen}
use Rattle.replay.proofs.conn.Conn.take_held.Given as goal

abbrev pub invariant-loop : goal.invariant-loop
invariant-loop g l = record {
  does : DoesSome (seen l.fn.self.dialog.matching) (seen l.self.dialog.matching) l.fn.findings.items l.findings.items;
  number : l.self.number ≡ l.fn.self.number;
}
