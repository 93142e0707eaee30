use Rattle.std.proofs.Common.{arith}
use Rattle.wire_msg.specs.Faults.{IsSized}
use Rattle.byte_views.specs.Sections.{no_name, not_sized}
use Rattle.byte_views.proofs.SectionLaws.{sequence_read}
use Rattle.byte_views.proofs.parts.read_sequence.Goals as goal
use Rattle.byte_views.proofs.parts.read_sequence.Goals.{then-size-lt5-via-then-size-lt5, then-size-lt5-via-else-size-lt5+then-size-rest}

pub returns-then-rest-lt4 : goal.returns-then-rest-lt4
returns-then-rest-lt4 c = not_sized (λ s. omega (arith, s.four, c.if-rest-lt4.true)) c.wrong.ensures

pub returns-then-size-lt5 : goal.returns-then-size-lt5
returns-then-size-lt5 c =
    elim c.then-size-lt5.branch [
      | then-size-lt5-via-then-size-lt5 w ↦ not_sized (λ s. omega (arith, s.least, w.if-size-lt5.true, c.little_u32-size.ensures)) c.wrong-then-size-lt5.ensures
      | then-size-lt5-via-else-size-lt5+then-size-rest w ↦ not_sized (λ s. omega (arith, s.most, w.if-size-rest.true, c.little_u32-size.ensures)) c.wrong-then-size-lt5.ensures
    ]

pub returns-in-Ok : goal.returns-in-Ok
returns-in-Ok c =
    let sized : IsSized c.args.rest.now = record { four = omega (arith, c.if-rest-lt4.false); least = omega (arith, c.if-size-lt5.false, c.little_u32-size.ensures); most = omega (arith, c.if-size-rest.false, c.little_u32-size.ensures) } in
    sequence_read c.args.rest.now c.args.at c.little_u32-size.result c.in-Ok.identifier.now c.in-Ok.documents.now c.new.result c.new-in-Ok.result c.new-in-Ok-2.result c.little_u32-size.ensures sized c.in-Ok.ensures.read c.in-Ok.ensures.parts c.new.ensures c.new-in-Ok.ensures c.new-in-Ok-2.ensures

pub returns-in-Err : goal.returns-in-Err
returns-in-Err c =
    let sized : IsSized c.args.rest.now = record { four = omega (arith, c.if-rest-lt4.false); least = omega (arith, c.if-size-lt5.false, c.little_u32-size.ensures); most = omega (arith, c.if-size-rest.false, c.little_u32-size.ensures) } in
    no_name c.in-Err.field-0 sized (rw c.little_u32-size.ensures at c.in-Err.ensures.read) c.wrong-in-Err.ensures
