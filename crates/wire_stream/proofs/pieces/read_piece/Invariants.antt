use Rattle.std.proofs.Common.{◌≡◌, ◌≤◌, ◌+◌, ◌-◌, ◌++◌, List, length, take, ℕ}
use Rattle.wire_msg.specs.{IsOpen}
use Rattle.wire_stream.specs.Gathering.{Gathered}
use Rattle.wire_stream.proofs.pieces.read_piece.Given as goal

abbrev pub invariant-loop-fed : goal.invariant-loop-fed
invariant-loop-fed l = record {
  limit : l.reader.limit ≡ l.fn.reader.limit;
  taken : l.taken ≤ length l.piece;
  wants : IsOpen l.fn.reader.limit l.reader.held;
  gathered : (bytes : List ℕ) → Gathered l.fn.reader.limit bytes l.fn.messages.items l.fn.reader.held → Gathered l.fn.reader.limit (bytes ++ take l.taken l.piece) l.messages.items l.reader.held;
}

abbrev pub decreases-loop-fed : goal.decreases-loop-fed
decreases-loop-fed l = (length l.piece - l.taken) + length l.reader.held
