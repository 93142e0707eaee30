use Rattle.test_store.specs.Held.{store_of}
use Rattle.test_store.proofs.Replies.{refused_settled}
use Rattle.test_store.proofs.commands.carry_out.Goals as goal

pub returns-in-Err-Refused-clause-answered : goal.returns-in-Err-Refused-clause-answered
returns-in-Err-Refused-clause-answered c = λ k carries.
    refused_settled (store_of c.args.store.now) (store_of c.run.new.store) _ c.in-Err-Refused.field-0 c.in-Err-Refused.error c.refusal_answer.result c.in-Err-Refused.field-0-is (c.in-Err-Refused.ensures.carried k carries) c.refusal_answer.ensures
