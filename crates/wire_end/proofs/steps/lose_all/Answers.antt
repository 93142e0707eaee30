use Rattle.std.proofs.Common.{◌∙◌, ap, sym}
use Rattle.wire_model.specs.{lost_record}
use Rattle.wire_end.specs.Records.{record_of}
use Rattle.wire_end.proofs.Giving.{lost_more}
use Rattle.wire_end.proofs.steps.lose_all.Goals as goal

pub loop-record-preserved : goal.loop-record-preserved
loop-record-preserved c = λ k.
    lost_more k c.args.records.now c.loop-record.records c.loop-record.record-index c.record-item.result
    c.lose.new.self c.loop-record-test.true c.record-item.is (c.loop-record.invariant k)
    (c.lose.ensures k ∙ ap (λ x. lost_record (record_of k x)) (sym c.record-item.is))
