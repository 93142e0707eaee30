use Rattle.std.proofs.Common.{◌≡◌, ◌==◌, ◌∙◌, sym, rules, tests}
use Rattle.std.specs.Prelude.{position}
use Rattle.std.proofs.lemmas.Iterator.{YieldsList-from_slice}
use Rattle.std.proofs.lemmas.Iterator.Search.{position_from_yields_List}
use Rattle.replay.specs.declared.follows.Follow.{Follow}
use Rattle.replay.proofs.FirstOnes.{none_rest, taken_rest}
use Rattle.replay.proofs.follows.Follows.forget.Goals as goal

pub returns-in-Some : goal.returns-in-Some
returns-in-Some c =
    let at : c.position.result ≡ position (λ (follow : Follow). follow.request == c.args.request) c.args.self.now.list.items = position_from_yields_List (λ (follow : Follow). follow.request == c.args.request) _ _ c.position.result c.position.ensures.ran (YieldsList-from_slice c.args.self.now.list.items cc) (λ x b q k. search (rules, tests)) in
    c.remove.ensures.items ∙ taken_rest (λ (follow : Follow). follow.request == c.args.request) c.args.self.now.list.items c.in-Some.i (sym at ∙ c.in-Some.is)

pub returns-in-None : goal.returns-in-None
returns-in-None c =
    let at : c.position.result ≡ position (λ (follow : Follow). follow.request == c.args.request) c.args.self.now.list.items = position_from_yields_List (λ (follow : Follow). follow.request == c.args.request) _ _ c.position.result c.position.ensures.ran (YieldsList-from_slice c.args.self.now.list.items cc) (λ x b q k. search (rules, tests)) in
    none_rest (λ (follow : Follow). follow.request == c.args.request) c.args.self.now.list.items (sym at ∙ c.in-None.is)
