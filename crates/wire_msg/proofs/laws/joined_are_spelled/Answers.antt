use Rattle.wire_msg.proofs.SplitLaws.{spelled-append, spelled_alone}
use Rattle.wire_msg.proofs.laws.joined_are_spelled.Goals as goal

pub returns : goal.returns
returns c = record { one = spelled_alone; more = spelled-append }
