use Rattle.std.proofs.Common.{rules}
use Rattle.client_examples.proofs.Moving.{sent_down}
use Rattle.client_examples.proofs.pair.ends.Ends.send_down.Goals as goal

pub returns : goal.returns
returns g c =
    let H = g.H.Handler in
    sent_down H.does H.stops c.args.self.now c.min-n.result c.sent.new.self c.put.new.self (search rules) (search rules) (search rules)
