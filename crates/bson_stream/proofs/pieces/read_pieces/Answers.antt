use Rattle.std.proofs.Common.{◌∙◌, refl}
use Rattle.std.proofs.lemmas.Result.{err_from_is_err_and}
use Rattle.bson_stream.proofs.Gatherings.{bad_piece, no_more_pieces, nothing_gathered, piece_refused, pieces_err, whole_piece}
use Rattle.bson_stream.proofs.Holdings.{need_is}
use Rattle.bson_stream.proofs.Standings.{nothing_open}
use Rattle.bson_stream.proofs.pieces.read_pieces.Goals as goal

pub loop-piece-init : goal.loop-piece-init
loop-piece-init c = rw (c.new-reader.ensures, c.new-documents.ensures.items) (record { limit = refl; wants = nothing_open; gathered = nothing_gathered _ refl refl })

pub returns-in-Bad-clause-cuts : goal.returns-in-Bad-clause-cuts
returns-in-Bad-clause-cuts c = bad_piece _ _ _ _ _ _ _ _ _ _ c.loop-piece.invariant.limit c.loop-piece-test.true c.loop-piece.invariant.gathered c.in_ok-fed.ensures.gathers c.in-Bad.is

pub returns-in_err-fed-clause-refused : goal.returns-in_err-fed-clause-refused
returns-in_err-fed-clause-refused c =
    let p = err_from_is_err_and c.from_residual.result c.from_residual.ensures.1 in
    rw (p.1, p.2) (piece_refused _ _ _ _ _ _ _ c.loop-piece.invariant.limit c.loop-piece-test.true c.loop-piece.invariant.gathered c.in_err-fed.ensures.refused)

pub loop-piece-preserved : goal.loop-piece-preserved
loop-piece-preserved c = record {
  limit = c.in_ok-fed.ensures.gathers.limit ∙ c.loop-piece.invariant.limit;
  wants = need_is _ _ _ c.in_ok-fed.ensures.gathers.state c.in-Need.is;
  gathered = whole_piece _ _ _ _ _ _ _ _ c.loop-piece-test.true c.loop-piece.invariant.gathered c.in_ok-fed.ensures.gathers c.in-Need.is;
}

pub returns-in-Ok-clause-cuts : goal.returns-in-Ok-clause-cuts
returns-in-Ok-clause-cuts c =
    no_more_pieces _ _ _ _ _ c.loop-piece.invariant.limit c.loop-piece-test.false c.loop-piece.invariant.gathered (λ some. let e = c.in-Ok.ensures.inside c.loop-piece.invariant.wants some in cc)

pub returns-clause-cuts : goal.returns-clause-cuts
returns-clause-cuts c =
    pieces_err _ _ _ _ _ c.in-Err.fault c.loop-piece.invariant.limit c.loop-piece-test.false c.loop-piece.invariant.gathered c.loop-piece.invariant.wants c.in-Err.ensures.between (λ some. c.in-Err.ensures.inside c.loop-piece.invariant.wants some)
