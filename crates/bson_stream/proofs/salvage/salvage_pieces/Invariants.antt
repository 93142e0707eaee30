use Rattle.std.proofs.Common.{◌≡◌, false, flat_map, take}
use Rattle.bson_stream.specs.SalvagedParts.{ToldParts}
use Rattle.bson_stream.proofs.salvage.salvage_pieces.Given as goal

-- the parts were told that the pieces so far decide
abbrev pub invariant-loop-piece : goal.invariant-loop-piece
invariant-loop-piece l = record {
  told : ToldParts false (flat_map (λ piece. piece.now) (take l.piece-index l.pieces)) l.salvager l.found.items;
  limit : l.salvager.limit ≡ l.limit;
}
