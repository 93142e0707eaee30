use Rattle.std.proofs.Common.{arith}
use Rattle.wire_world.proofs.Copying.{copied, copied_past, looked_up, uncopied}
use Rattle.wire_world.proofs.moving.copy_reply.Goals as goal

pub returns-then-index-calls-clause-copied : goal.returns-then-index-calls-clause-copied
returns-then-index-calls-clause-copied c = copied_past _ c.args.indexes.now c.args.client.now.held c.args.client.now.reply c.in-Some.reply c.args.calls.now c.in-Some-get.index.now c.in-Some.ensures.ready c.in-Some.ensures.message (looked_up _ _ _ c.in-Some-get.ensures.lookup.3.0 c.in-Some-get.ensures.lookup.1) (omega arith)

pub returns-clause-copied : goal.returns-clause-copied
returns-clause-copied c = copied c.give.result _ c.args.indexes.now c.args.client.now.held c.args.client.now.reply c.in-Some.reply c.args.calls.now c.in-Some-get.index.now c.index-calls-index.result c.give.new.self c.in-Some.ensures.ready c.in-Some.ensures.message c.in-Some.ensures.payload (looked_up _ _ _ c.in-Some-get.ensures.lookup.3.0 c.in-Some-get.ensures.lookup.1) (omega arith) c.index-calls-index.is c.give.ensures.given

pub returns-clause-unchanged : goal.returns-clause-unchanged
returns-clause-unchanged c = uncopied c.give.result c.args.calls.now c.in-Some-get.index.now c.index-calls-index.result c.give.new.self (omega arith) c.index-calls-index.is c.give.ensures.unchanged
