use Rattle.wire_query.proofs.MessageLaws.{no_message}
use Rattle.wire_query.proofs.laws.no_query_is_a_message.Goals as goal

pub returns : goal.returns
returns c = no_message
