use Rattle.std.proofs.Common.{◌∙◌, ap, nat_eq, not, rules}
use Rattle.indexmap.proofs.CallerLemmas.{filter-RetainsPairs}
use Rattle.wire_share.specs.Routing.{off}
use Rattle.wire_share.proofs.route_table.RouteTable.forget_upstream.Goals as goal

pub returns : goal.returns
returns g c =
    filter-RetainsPairs _ (λ e. not (nat_eq e.1 c.args.upstream)) _ (λ k v b w h call. search rules) _ _ c.retain.ensures.filtered
    ∙ ap (λ t. off c.args.upstream t) c.self.view_is
