use Rattle.replay.proofs.FirstOnes.{popped}
use Rattle.replay.proofs.answers.Answers.take_front.Goals as goal

pub returns : goal.returns
returns c = popped c.args.self.now.list.items _ c.args.self.now.list.len c.pop_front.result c.pop_front.ensures.items c.args.self.now.list.ok.0 c.pop_front.ensures.variant
