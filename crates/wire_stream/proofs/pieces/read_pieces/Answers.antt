use Rattle.std.proofs.Common.{◌∙◌, [], arith, refl}
use Rattle.wire_msg.specs.Standing.{in_header}
use Rattle.wire_stream.proofs.Cuttings.{bad_piece, no_more_pieces, none_in_piece, nothing_yet, wants_on, whole_piece}
use Rattle.wire_stream.proofs.Readings.{on_err}
use Rattle.wire_stream.proofs.pieces.read_pieces.Goals as goal

pub loop-piece-init : goal.loop-piece-init
loop-piece-init c = rw (c.new-reader.ensures, c.new-messages.ensures.items) (record { limit = refl; wants = in_header {bytes = []} (omega arith); gathered = nothing_yet c.args.limit })

pub returns-in_default : goal.returns-in_default
returns-in_default c = record {
  limit = c.in_ok-fed.ensures.limit ∙ c.loop-piece.invariant.limit;
  cuts = bad_piece _ _ _ _ _ _ _ _ _ _ c.loop-piece.invariant.limit c.loop-piece-test.true c.loop-piece.invariant.gathered c.in_ok-fed.ensures.gathers c.in_default.not-Need;
  refused = tt;
}

pub returns-in_err-fed-clause-refused : goal.returns-in_err-fed-clause-refused
returns-in_err-fed-clause-refused c = on_err c.from_residual.result _ (none_in_piece _ _ _ _ _ _ _ c.loop-piece.invariant.limit c.loop-piece-test.true c.loop-piece.invariant.gathered c.in_err-fed.ensures.refused)

pub loop-piece-preserved : goal.loop-piece-preserved
loop-piece-preserved c = record {
  limit = c.in_ok-fed.ensures.limit ∙ c.loop-piece.invariant.limit;
  wants = wants_on _ _ _ _ _ _ _ _ c.loop-piece.invariant.limit c.in_ok-fed.ensures.gathers c.in-Need.is;
  gathered = whole_piece _ _ _ _ _ _ _ _ _ _ c.loop-piece.invariant.limit c.loop-piece-test.true c.loop-piece.invariant.gathered c.in_ok-fed.ensures.gathers c.in-Need.is;
}

pub returns-clause-cuts : goal.returns-clause-cuts
returns-clause-cuts c = no_more_pieces _ _ _ _ _ c.loop-piece-test.false c.loop-piece.invariant.gathered c.loop-piece.invariant.wants
