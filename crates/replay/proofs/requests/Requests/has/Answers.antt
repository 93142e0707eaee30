use Rattle.std.proofs.Common.{◌≡◌, ◌==◌, ◌∙◌, ℕ, rules, tests}
use Rattle.std.specs.Prelude.{position}
use Rattle.std.proofs.lemmas.Iterator.Consumers.{YieldsList-from_deque}
use Rattle.std.proofs.lemmas.Iterator.Search.{position_from_yields_List}
use Rattle.replay.proofs.FirstOnes.{placed_has}
use Rattle.replay.proofs.requests.Requests.has.Goals as goal

pub returns : goal.returns
returns c =
    let at : c.position.result ≡ position (λ (other : ℕ). other == c.args.id) c.args.self.now.ids.items = position_from_yields_List (λ (other : ℕ). other == c.args.id) _ _ c.position.result c.position.ensures.ran (YieldsList-from_deque c.args.self.now.ids.items c.iter.ensures.rest) (λ x b q k. search (rules, tests)) in
    c.is_some.ensures ∙ placed_has (λ (other : ℕ). other == c.args.id) c.args.self.now.ids.items c.position.result at
