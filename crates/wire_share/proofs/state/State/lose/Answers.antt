use Rattle.std.proofs.Common.{refl, sym, ◌∙◌, rules, not}
use Rattle.std.proofs.lemmas.Option.{none-some}
use Rattle.indexmap.proofs.CallerLemmas.{filter-RetainsPairs}
use Rattle.wire_share.specs.Cores.{hangs_on}
use Rattle.wire_share.proofs.Keeping.{unless_filter}
use Rattle.wire_share.proofs.state.State.lose.Goals as goal

pub returns-clause-lost : goal.returns-clause-lost
returns-clause-lost c = λ y at. record {
  server = y;
  server_at = at;
  downs = λ d.
      unless_filter c.args.upstream d c.args.self.now.downs.entries c.retain.new.self.entries c.args.self.now.unique
      (filter-RetainsPairs _ (λ e. not (hangs_on c.args.upstream e.1)) _ (λ k v b w h call. search rules) _ _ c.retain.ensures.filtered);
  ups = λ u. c.swap_remove.ensures.updates.0 u;
  routes = c.lose.ensures;
  accepted = refl;
  opened = refl;
}

pub returns-clause-none : goal.returns-clause-none
returns-clause-none c = λ at. absurd (none-some c.in-Some._lost (sym at ∙ sym c.in-Some.ensures.value))
