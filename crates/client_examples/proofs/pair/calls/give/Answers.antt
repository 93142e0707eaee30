use Rattle.std.proofs.Common.{arith}
use Rattle.wire_peer.specs.{content_of}
use Rattle.client_examples.proofs.Keeping.{given_each}
use Rattle.client_examples.proofs.pair.calls.give.Goals as goal

pub returns : goal.returns
returns c =
    given_each c.give_part.result c.args.records.now c.args.reply.call c.index-records-index.result c.give_part.new.call
    (content_of c.args.reply.payload) c.args.reply.last (omega arith) c.index-records-index.is c.give_part.ensures
