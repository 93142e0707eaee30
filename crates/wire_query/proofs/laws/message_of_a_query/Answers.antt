use Rattle.wire_query.proofs.DatabaseLaws.{named}
use Rattle.wire_query.proofs.MessageLaws.{message_spelled}
use Rattle.wire_query.proofs.laws.message_of_a_query.Goals as goal

pub returns : goal.returns
returns c = record { spelled = message_spelled; named = λ q. named q.database q.body }
