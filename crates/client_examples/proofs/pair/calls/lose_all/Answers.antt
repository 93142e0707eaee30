use Rattle.std.proofs.Common.{◌∙◌, ap, sym}
use Rattle.wire_model.specs.{lost_record}
use Rattle.wire_end.specs.{record_of}
use Rattle.wire_end.specs.declared.call_record.CallRecord.{CallRecord}
use Rattle.client_examples.proofs.Keeping.{lost_more}
use Rattle.client_examples.proofs.pair.calls.lose_all.Goals as goal

pub loop-call-preserved : goal.loop-call-preserved
loop-call-preserved c =
    lost_more c.args.records.now c.loop-call.records c.loop-call.call-index c.call-item.result c.lose.new.call
    c.loop-call-test.true c.call-item.is c.loop-call.invariant
    (c.lose.ensures ∙ ap (λ (x : CallRecord). lost_record (record_of 1 x)) (sym c.call-item.is))
