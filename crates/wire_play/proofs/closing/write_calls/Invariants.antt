use Rattle.std.proofs.Common.{drop, map}
use Rattle.wire_world.specs.Records.{record_of}
use Rattle.wire_play.specs.Closing.{call_text, numbered}
use Rattle.wire_play.proofs.Listings.{Listed}
use Rattle.wire_play.proofs.closing.write_calls.Given as goal

-- what was written, and the texts of the calls that are left, are all texts
abbrev pub invariant-loop-k : goal.invariant-loop-k
invariant-loop-k g l =
    Listed (g.W.Write.contents l.initial.out) (g.W.Write.contents l.out)
    (numbered call_text 0 (map record_of l.calls)) (numbered call_text l.k (map record_of (drop l.k l.calls)))
