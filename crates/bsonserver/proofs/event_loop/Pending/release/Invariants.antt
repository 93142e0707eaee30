use Rattle.bsonserver.specs.Turning.{StayDue}
use Rattle.bsonserver.proofs.event_loop.Pending.release.Given as goal

-- those that were to take another turn still are
abbrev pub invariant-loop : goal.invariant-loop
invariant-loop g l = StayDue l.initial.self.again.keys.items l.self.again.keys.items
