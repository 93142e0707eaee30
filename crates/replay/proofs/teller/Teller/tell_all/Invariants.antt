use Rattle.std.proofs.Common.{◌≡◌, List, drop}
use Rattle.replay.specs.Counts.{AreCounted}
use Rattle.replay.specs.Notes.{AreNoted}
use Rattle.replay.specs.declared.cursors.Cursor.{Cursor}
use Rattle.replay.specs.declared.tally.Tally.{Tally}
use Rattle.replay.proofs.teller.Teller.tell_all.Given as goal

-- what is left to be counted makes all counted
abbrev pub invariant-loop-finding : goal.invariant-loop-finding
invariant-loop-finding g l = record {
  counted : (after : Tally) → AreCounted (drop l.finding-index l.finding-items) l.self.tally after
      → AreCounted l.fn.findings.items l.fn.self.tally after;
  noted : (after : List Cursor) → AreNoted (drop l.finding-index l.finding-items) l.cursors.list.items after
      → AreNoted l.fn.findings.items l.fn.cursors.list.items after;
  names : l.self.names ≡ l.fn.self.names;
}
