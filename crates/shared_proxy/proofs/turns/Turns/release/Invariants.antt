use Rattle.std.specs.Prelude.{◌≡◌}
use Rattle.shared_proxy.proofs.turns.Turns.release.Given as goal

abbrev pub invariant-loop : goal.invariant-loop
invariant-loop g l = record { core : l.self.sharing.core ≡ l.fn.self.sharing.core; script : l.self.script ≡ l.fn.self.script }
