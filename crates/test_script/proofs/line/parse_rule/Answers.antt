use Rattle.test_script.proofs.Failing.{action_fails}
use Rattle.test_script.proofs.line.parse_rule.Goals as goal

pub returns-in-Err-clause-fault : goal.returns-in-Err-clause-fault
returns-in-Err-clause-fault c =
    let found = c.in-Some.ensures.found in
    action_fails c.args.line.now _ _ _ _ _ _ _ _ found.0 found.2 c.cut_filter.ensures.filter c.cut_filter.ensures.behind c.cut_times.ensures.times c.cut_times.ensures.behind
    c.in_ok-filter.ensures.is c.in-Some-read_times.ensures.is c.in-Err.ensures.fault
