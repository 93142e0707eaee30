use Rattle.std.proofs.Common.{◌∙◌, ap, sym}
use Rattle.wire_model.specs.{settled_record}
use Rattle.wire_world.specs.declared.records.CallRecord.{CallRecord}
use Rattle.wire_world.specs.Records.{record_of}
use Rattle.wire_world.proofs.Numbered.{values_over_more}
use Rattle.wire_world.proofs.lists.settle.Goals as goal

pub loop-call-preserved : goal.loop-call-preserved
loop-call-preserved c =
    let settle = settled_record c.args.connections.now in
    values_over_more record_of settle c.args.calls.now c.loop-call.calls c.loop-call.call-index c.call-item.result c.settle_one.new.call c.loop-call-test.true c.call-item.is c.loop-call.invariant
    (c.settle_one.ensures ∙ ap (λ (x : CallRecord). settle (record_of x)) (sym c.call-item.is))
