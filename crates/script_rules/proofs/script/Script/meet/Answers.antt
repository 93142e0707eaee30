use Rattle.std.proofs.Common.{◌≡◌, Some, length, set, refl, sym, ap, ◌∙◌, arith}
use Rattle.std.specs.Prelude.{slice_get}
use Rattle.std.proofs.lemmas.Option.{slice_get_read}
use Rattle.wire_peer.specs.{content_of}
use Rattle.script_rules.specs.Meeting.{first_met}
use Rattle.script_rules.specs.Rules.{RuleView}
use Rattle.script_rules.proofs.Meets.{after_nothing, within}
use Rattle.script_rules.proofs.Used.{after_is}
use Rattle.script_rules.proofs.script.Script.meet.Goals as goal

pub index_mut-requires : goal.index_mut-requires
index_mut-requires c =
    let rules = c.args.self.now.rules.items in
    let met : first_met (content_of c.args.request) rules ≡ Some c.in-Some.i = sym c.in_ok-found.ensures ∙ c.in-Some.is in
    omega (arith, within (content_of c.args.request) rules c.in-Some.i met, c.args.self.now.rules.ok.0)

pub returns-in-Some-clause-used : goal.returns-in-Some-clause-used
returns-in-Some-clause-used c =
    let rules = c.args.self.now.rules.items in
    let request = content_of c.args.request in
    let met : first_met request rules ≡ Some c.in-Some.i = sym c.in_ok-found.ensures ∙ c.in-Some.is in
    let at : slice_get rules c.in-Some.i ≡ Some c.index_mut.result.now =
    slice_get_read rules (length rules) c.in-Some.i c.index_mut.result.now refl (within request rules c.in-Some.i met) c.index_mut.ensures.value in
    ap (λ (r : RuleView). set rules c.in-Some.i r) c.use_up.ensures ∙ after_is request rules c.in-Some.i c.index_mut.result.now met at

pub returns-in-None-clause-used : goal.returns-in-None-clause-used
returns-in-None-clause-used c =
    let rules = c.args.self.now.rules.items in
    sym (after_nothing (content_of c.args.request) rules (sym c.in_ok-found.ensures ∙ c.in-None.is))
