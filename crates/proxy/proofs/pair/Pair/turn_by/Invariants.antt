use Rattle.std.proofs.Common.{◌≡◌, true}
use Rattle.proxy.proofs.pair.Pair.turn_by.Given as goal

-- a request that is delayed stays so, and the script isn't asked
abbrev pub invariant-steps : goal.invariant-steps
invariant-steps g l =
    record {
      delayed : l.fn.self.delayed ≡ true → (l.script ≡ l.fn.script) × (l.self.delayed ≡ true);
      others : l.self ≡ record l.fn.self { relay = l.self.relay; watches = l.self.watches; marks = l.self.marks; delayed = l.self.delayed };
    }
