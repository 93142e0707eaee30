use Rattle.std.proofs.Common.{◌≡◌, ◌≤◌, ◌+◌, ◌-◌, ◌++◌, List, length, take, ℕ}
use Rattle.bson_stream.specs.Gathering.{Gathered}
use Rattle.bson_stream.specs.Standing.{IsOpen}
use Rattle.bson_stream.proofs.pieces.read_piece.Given as goal

abbrev pub invariant-loop-fed : goal.invariant-loop-fed
invariant-loop-fed l = record {
  limit : l.reader.limit ≡ l.fn.reader.limit;
  taken : l.taken ≤ length l.piece;
  wants : IsOpen l.reader.held;
  gathered : (bytes : List ℕ) → Gathered bytes l.fn.documents.items l.fn.reader → Gathered (bytes ++ take l.taken l.piece) l.documents.items l.reader;
}

abbrev pub decreases-loop-fed : goal.decreases-loop-fed
decreases-loop-fed l = (length l.piece - l.taken) + length l.reader.held
