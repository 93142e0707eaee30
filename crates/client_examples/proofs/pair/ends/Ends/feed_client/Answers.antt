use Rattle.std.proofs.Common.{rules}
use Rattle.client_examples.proofs.Moving.{fed_client, stays}
use Rattle.client_examples.proofs.pair.ends.Ends.feed_client.Goals as goal

pub returns-then-is_some : goal.returns-then-is_some
returns-then-is_some g c = stays g.H.Handler.does g.H.Handler.stops c.args.self.now

pub returns : goal.returns
returns g c =
    let H = g.H.Handler in
    fed_client H.does H.stops c.args.self.now c.coming.result.now c.in-Ok.taken c.feed.new.self c.arrived.new.self (search rules) (search rules)
    c.coming.ensures.first c.coming.ensures.comes c.arrived.ensures
