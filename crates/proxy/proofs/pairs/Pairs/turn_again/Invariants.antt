use Rattle.std.proofs.Common.{◌≡◌}
use Rattle.proxy.proofs.pairs.Pairs.turn_again.Given as goal

-- no pair is opened
abbrev pub invariant-due : goal.invariant-due
invariant-due g l = (l.self.opened ≡ l.fn.self.opened) × (l.self.watching ≡ l.fn.self.watching)
