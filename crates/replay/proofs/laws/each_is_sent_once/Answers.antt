use Rattle.replay.proofs.Sending.{sent_once}
use Rattle.replay.proofs.laws.each_is_sent_once.Goals as goal

pub returns : goal.returns
returns c = sent_once
