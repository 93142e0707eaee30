use Rattle.std.proofs.Common.{◌≡◌, length}
use Rattle.std.specs.Io.KnownBytes.{Keeps}
use Rattle.replay.proofs.piece.read_some.Given as goal

abbrev pub invariant-loop : goal.invariant-loop
invariant-loop g l = record {
  read : Keeps (g.R.Read.remaining l.fn.reader) (g.R.Read.remaining l.reader);
  room : length l.room ≡ length l.fn.room;
}
