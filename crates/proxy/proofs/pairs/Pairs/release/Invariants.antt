use Rattle.std.proofs.Common.{◌≡◌}
use Rattle.proxy.proofs.pairs.Pairs.release.Given as goal

-- no pair is opened, and none ends
abbrev pub invariant-due : goal.invariant-due
invariant-due g l =
    record {
      opened : l.self.opened ≡ l.fn.self.opened;
      watching : l.self.watching ≡ l.fn.self.watching;
      ended : l.self.ended ≡ l.fn.self.ended;
    }
