use Rattle.client_examples.proofs.Moving.{answered}
use Rattle.client_examples.proofs.pair.ends.Ends.answer.Goals as goal

pub returns : goal.returns
returns g c =
    let H = g.H.Handler in
    answered H.does H.stops c.args.self.now c.args.index c.answer.result c.answer.new.self c.answer.new.logged c.answer.ensures

pub returns-2 : goal.returns-2
returns-2 g c =
    let H = g.H.Handler in
    answered H.does H.stops c.args.self.now c.args.index c.answer.result c.answer.new.self c.answer.new.logged c.answer.ensures
