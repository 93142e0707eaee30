use Rattle.std.proofs.lemmas.Result.{err_from_is_err_and}
use Rattle.test_script.proofs.Parsing.{all_read, fails_here, none_yet, one_more}
use Rattle.test_script.proofs.script.parse.Goals as goal

pub loop-line-init : goal.loop-line-init
loop-line-init c = (tt, tt, none_yet _ _ _ c.new-lines.ensures c.new-rules.ensures.items)

pub loop-line-preserved : goal.loop-line-preserved
loop-line-preserved c =
    let added = c.in_ok-add_rule.ensures.added in
    (tt, tt, one_more _ _ _ _ _ _ added.0 c.in-Some.ensures.steps c.loop-line.invariant.2 added.1 added.2)

pub returns-in_err-add_rule-clause-fault : goal.returns-in_err-add_rule-clause-fault
returns-in_err-add_rule-clause-fault c =
    let told = err_from_is_err_and c.from_residual.result c.from_residual.ensures.1 in
    rw (told.1, told.2)
    (fails_here _ _ _ _ _ _ c.in_err-add_rule.field-0.0 c.in-Some.ensures.steps c.loop-line.invariant.2 c.in_err-add_rule.ensures.fault.0 c.in_err-add_rule.ensures.fault.1)

pub returns-clause-script : goal.returns-clause-script
returns-clause-script c = rw c.from_rules.ensures (all_read _ _ _ c.in_default.ensures.steps.0 c.loop-line.invariant.2)
