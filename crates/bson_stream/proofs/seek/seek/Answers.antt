use Rattle.std.proofs.Common.{◌+◌, ◌-◌, length, take, drop, arith, length-drop}
use Rattle.std.proofs.lemmas.List.{nil_from_length}
use Rattle.bson_stream.specs.Salvagers.{IsFront}
use Rattle.bson_stream.proofs.Salvagings.{gap_more, fault_found, gap_none, none_more, stand_document, stand_open}
use Rattle.bson_stream.proofs.seek.seek.Goals as goal

pub loop-passed-init : goal.loop-passed-init
loop-passed-init c = record { within = omega arith; none = λ more may. tt; gap_is = gap_none c.args.limit c.args.ended c.args.start c.args.held.now c.args.gap }

pub returns-in-Open : goal.returns-in-Open
returns-in-Open c =
    let i = c.loop-passed.invariant in
    record { within = i.within; none = i.none; gap_is = i.gap_is; stand_is = stand_open _ _ _ c.loop-passed.passed c.args.held.now _ c.front_of.ensures c.in-Open.is }

pub returns-in-Document : goal.returns-in-Document
returns-in-Document c =
    let i = c.loop-passed.invariant in
    record { within = i.within; none = i.none; gap_is = i.gap_is; stand_is = stand_document _ _ _ c.loop-passed.passed c.args.held.now _ c.in-Document.len c.in-Document.canonical c.front_of.ensures c.in-Document.is }

pub loop-passed-preserved : goal.loop-passed-preserved
loop-passed-preserved c =
    let i = c.loop-passed.invariant in
    let at = c.loop-passed.passed in
    let held = c.args.held.now in
    let front : IsFront c.args.limit c.args.ended (c.args.start + at) (take (length held - at) (drop at held)) c.front_of.result = c.front_of.ensures in
    let here = fault_found c.args.limit c.args.ended (c.args.start + at) at held _ _ front c.in-Fault.is in
    record {
      within = omega (arith, c.loop-passed-test.true);
      none = none_more c.args.limit c.args.ended at held c.loop-passed-test.true i.none (λ more may. (here more may).1);
      gap_is = rw c.gap_on-behind.ensures (gap_more c.args.limit c.args.ended c.args.start at held c.args.gap c.loop-passed.behind c.in-Fault.fault i.gap_is (λ more may. (here more may).0));
    }

pub returns : goal.returns
returns c =
    let i = c.loop-passed.invariant in
    record { within = i.within; none = i.none; gap_is = i.gap_is; stand_is = nil_from_length _ (omega (arith, c.loop-passed-test.false, length-drop c.loop-passed.passed c.args.held.now)) }
