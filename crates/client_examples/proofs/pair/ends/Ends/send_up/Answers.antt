use Rattle.std.proofs.Common.{rules}
use Rattle.client_examples.proofs.Moving.{sent_up}
use Rattle.client_examples.proofs.pair.ends.Ends.send_up.Goals as goal

pub returns : goal.returns
returns g c =
    let H = g.H.Handler in
    sent_up H.does H.stops c.args.self.now c.min-n.result c.sent.new.self c.put.new.self (search rules) (search rules) (search rules)
