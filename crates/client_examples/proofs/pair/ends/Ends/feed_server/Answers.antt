use Rattle.std.proofs.Common.{rules}
use Rattle.client_examples.proofs.Moving.{fed_server, stays}
use Rattle.client_examples.proofs.pair.ends.Ends.feed_server.Goals as goal

pub returns-in_default : goal.returns-in_default
returns-in_default g c = stays g.H.Handler.does g.H.Handler.stops c.args.self.now

pub returns-then-is_full : goal.returns-then-is_full
returns-then-is_full g c = stays g.H.Handler.does g.H.Handler.stops c.args.self.now

pub returns : goal.returns
returns g c =
    let H = g.H.Handler in
    fed_server H.does H.stops c.args.self.now c.coming.result.now c.in-Ok.taken c.feed.new.self c.arrived.new.self (search rules) (search rules) (search rules) (search rules)
    c.coming.ensures.first c.coming.ensures.comes c.arrived.ensures
