use Rattle.std.proofs.Common.{◌≡◌, flat_map, take}
use Rattle.wire_msg.specs.{IsOpen}
use Rattle.wire_stream.specs.Gathering.{Gathered}
use Rattle.wire_stream.proofs.pieces.read_pieces.Given as goal

abbrev pub invariant-loop-piece : goal.invariant-loop-piece
invariant-loop-piece l = record {
  limit : l.reader.limit ≡ l.limit;
  wants : IsOpen l.limit l.reader.held;
  gathered : Gathered l.limit (flat_map (λ piece. piece.now) (take l.piece-index l.pieces)) l.messages.items l.reader.held;
}
