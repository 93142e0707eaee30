use Rattle.std.proofs.Common.{◌≡◌, flat_map, take}
use Rattle.bson_stream.specs.Gathering.{Gathered}
use Rattle.bson_stream.specs.Standing.{IsOpen}
use Rattle.bson_stream.proofs.pieces.read_pieces.Given as goal

abbrev pub invariant-loop-piece : goal.invariant-loop-piece
invariant-loop-piece l = record {
  limit : l.reader.limit ≡ l.limit;
  wants : IsOpen l.reader.held;
  gathered : Gathered (flat_map (λ piece. piece.now) (take l.piece-index l.pieces)) l.documents.items l.reader;
}
