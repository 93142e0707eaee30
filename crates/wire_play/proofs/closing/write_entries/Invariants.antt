use Rattle.std.proofs.Common.{drop, map}
use Rattle.wire_peer.specs.{entry_of}
use Rattle.wire_play.specs.Closing.{entry_line, numbered}
use Rattle.wire_play.proofs.Listings.{Listed}
use Rattle.wire_play.proofs.closing.write_entries.Given as goal

-- what was written, and the lines of the entries that are left, are all lines
abbrev pub invariant-loop-e : goal.invariant-loop-e
invariant-loop-e g l =
    Listed (g.W.Write.contents l.initial.out) (g.W.Write.contents l.out)
    (numbered entry_line 0 (map entry_of l.entries)) (numbered entry_line l.e (map entry_of (drop l.e l.entries)))
