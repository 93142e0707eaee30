use Rattle.std.proofs.Common.{◌∙◌, ap}
use Rattle.std.proofs.lemmas.Result.{err_from_is_err_and}
use Rattle.bson_stream.specs.Salvagers.{Salvaging}
use Rattle.bson_stream.proofs.SalvagedFound.{out_of_memory, piece_not_fed, piece_taken, pieces_ended}
use Rattle.bson_stream.proofs.salvage.salvage_pieces.Goals as goal

pub loop-piece-preserved : goal.loop-piece-preserved
loop-piece-preserved c = record {
  told = piece_taken _ _ _ _ _ _ _ _ c.loop-piece-test.true c.loop-piece.invariant.told (λ ps so. c.in_ok-feed.ensures.fed _ ps so) c.in_ok-take_parts.ensures.finds;
  limit = c.in_ok-take_parts.ensures.finds.1 ∙ ap (λ (s : Salvaging). s.limit) c.in_ok-feed.ensures.held ∙ c.loop-piece.invariant.limit;
}

pub returns-in_err-feed-clause-refused : goal.returns-in_err-feed-clause-refused
returns-in_err-feed-clause-refused c =
    let p = err_from_is_err_and c.from_residual.result c.from_residual.ensures.1 in
    rw (p.1, p.2) (piece_not_fed _ _ _ _ _ _ c.loop-piece-test.true c.loop-piece.invariant.told c.in_err-feed.ensures.refused)

pub returns-in_err-take_parts-clause-refused : goal.returns-in_err-take_parts-clause-refused
returns-in_err-take_parts-clause-refused c =
    let p = err_from_is_err_and c.from_residual-in_err-take_parts.result c.from_residual-in_err-take_parts.ensures.1 in
    rw (p.1, p.2) (out_of_memory _ _ c.in_err-take_parts.ensures.refused)

pub returns-in_err-take_parts-2-clause-refused : goal.returns-in_err-take_parts-2-clause-refused
returns-in_err-take_parts-2-clause-refused c =
    let p = err_from_is_err_and c.from_residual-in_err-take_parts-2.result c.from_residual-in_err-take_parts-2.ensures.1 in
    rw (p.1, p.2) (out_of_memory _ _ c.in_err-take_parts-2.ensures.refused)

pub returns-clause-cuts : goal.returns-clause-cuts
returns-clause-cuts c = pieces_ended _ _ _ _ _ _ _ c.loop-piece-test.false c.loop-piece.invariant.told c.in_ok-take_parts-2.ensures.finds c.loop-piece.invariant.limit
