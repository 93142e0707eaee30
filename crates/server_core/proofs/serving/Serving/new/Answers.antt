use Rattle.std.proofs.Common.{refl, sym, subst, []}
use Rattle.wire_serve.specs.{tells}
use Rattle.server_core.specs.Serving.{Serves, begun}
use Rattle.server_core.proofs.serving.Serving.new.Goals as goal

pub returns : goal.returns
returns g c =
    let rules = c.args.replies.script.rules.items in
    record {
      serves = subst (λ n. Serves g.H.Handler.does g.H.Handler.stops (tells g.L.Link.received g.L.Link.sent g.L.Link.ends g.L.Link.waits g.L.Link.failures) g.L.Gated.gate c.args.handler rules 0 c.new.result.slots c.new.result.logged n rules []) (sym c.new.ensures.next) (begun c.new.ensures.slots c.new.ensures.empty c.new.ensures.handler);
      counts = refl;
    }
