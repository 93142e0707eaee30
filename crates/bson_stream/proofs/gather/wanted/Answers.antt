use Rattle.std.proofs.Common.{refl, sym, subst, arith}
use Rattle.std.proofs.lemmas.Bool.{iff_false}
use Rattle.bson_stream.specs.Holding.{for_document, for_fault, for_length}
use Rattle.bson_stream.specs.Standing.{IsLength}
use Rattle.bson_stream.proofs.Holdings.{more_wanted}
use Rattle.bson_stream.proofs.gather.wanted.Goals as goal

pub returns-in_default-clause-wanted : goal.returns-in_default-clause-wanted
returns-in_default-clause-wanted c = for_length c.in_default.ensures refl

pub returns-in_default-clause-more : goal.returns-in_default-clause-more
returns-in_default-clause-more c = more_wanted c.args.limit 4 c.args.held.now c.args.piece.now c.requires (for_length c.in_default.ensures refl)

pub returns-then-not-is_length-clause-wanted : goal.returns-then-not-is_length-clause-wanted
returns-then-not-is_length-clause-wanted c =
    for_fault c.in-Some.ensures.0 (λ good. iff_false c.is_length.ensures c.if-not-is_length.true (subst IsLength (sym c.in-Some.ensures.1) good)) refl

pub returns-then-not-is_length-clause-more : goal.returns-then-not-is_length-clause-more
returns-then-not-is_length-clause-more c = more_wanted c.args.limit 4 c.args.held.now c.args.piece.now c.requires
    (for_fault c.in-Some.ensures.0 (λ good. iff_false c.is_length.ensures c.if-not-is_length.true (subst IsLength (sym c.in-Some.ensures.1) good)) refl)

pub returns-clause-wanted : goal.returns-clause-wanted
returns-clause-wanted c =
    for_document c.in-Some.ensures.0 (subst IsLength c.in-Some.ensures.1 (c.is_length.ensures.0 c.if-not-is_length.false)) (omega (arith, c.in-Some.ensures.1, c.if-announced-limit.false)) c.in-Some.ensures.1

pub returns-clause-more : goal.returns-clause-more
returns-clause-more c = more_wanted c.args.limit c.in-Some.announced c.args.held.now c.args.piece.now c.requires
    (for_document c.in-Some.ensures.0 (subst IsLength c.in-Some.ensures.1 (c.is_length.ensures.0 c.if-not-is_length.false)) (omega (arith, c.in-Some.ensures.1, c.if-announced-limit.false)) c.in-Some.ensures.1)
