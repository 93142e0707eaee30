use Rattle.std.proofs.Common.{◌≡◌, option_map, take}
use Rattle.std.specs.Duration.{as_nanos}
use Rattle.sockets.specs.Delaying.{first_left}
use Rattle.sockets.proofs.delays.Delays.least.Given as goal

-- the time is that of the connections before this one
abbrev pub invariant-loop-delay : goal.invariant-loop-delay
invariant-loop-delay g l = option_map as_nanos l.least ≡ first_left (take l.delay-index l.delay-items) l.now
