use Rattle.std.proofs.Common.{arith}
use Rattle.wire_peer.specs.{content_of}
use Rattle.wire_end.proofs.Giving.{given_each, ungiven_each}
use Rattle.wire_end.proofs.steps.give.Goals as goal

pub returns-clause-given : goal.returns-clause-given
returns-clause-given c =
    given_each c.give.result c.args.records.now c.args.reply.call c.index-records-index.result c.give.new.self
    (content_of c.args.reply.payload) c.args.reply.last (omega arith) c.index-records-index.is c.give.ensures.given

pub returns-clause-unchanged : goal.returns-clause-unchanged
returns-clause-unchanged c =
    ungiven_each c.give.result c.args.records.now c.args.reply.call c.index-records-index.result c.give.new.self
    (omega arith) c.index-records-index.is c.give.ensures.unchanged
