use Rattle.std.proofs.Common.{Err, ap}
use Rattle.test_script.proofs.Failing.{action_fault}
use Rattle.test_script.proofs.line.read_action.Goals as goal

pub no_action-requires : goal.no_action-requires
no_action-requires c = c.in-Err-Malformed.ensures.none (ap Err c.in-Err-Malformed.field-0-is)

pub returns-in-Err-Malformed-clause-fault : goal.returns-in-Err-Malformed-clause-fault
returns-in-Err-Malformed-clause-fault c =
    action_fault c.args.text.now _ (c.in-Err-Malformed.ensures.none (ap Err c.in-Err-Malformed.field-0-is)) c.no_action.ensures
