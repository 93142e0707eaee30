use Rattle.std.proofs.Common.{◌≡◌, ◌==◌, ℕ, Option, ap, sym, ◌∙◌, rules, tests}
use Rattle.std.specs.Prelude.{position, is_some}
use Rattle.std.proofs.lemmas.Iterator.Consumers.{YieldsList-from_deque}
use Rattle.std.proofs.lemmas.Iterator.Search.{position_from_yields_List}
use Rattle.replay.proofs.FirstOnes.{none_found, none_rest, taken_found, taken_left}
use Rattle.replay.proofs.requests.Requests.take.Goals as goal

pub returns-in-Some-clause-found : goal.returns-in-Some-clause-found
returns-in-Some-clause-found c =
    let at : c.position.result ≡ position (λ (other : ℕ). other == c.args.id) c.args.self.now.ids.items = position_from_yields_List (λ (other : ℕ). other == c.args.id) _ _ c.position.result c.position.ensures.ran (YieldsList-from_deque c.args.self.now.ids.items c.iter.ensures.rest) (λ x b q k. search (rules, tests)) in
    c.is_some.ensures ∙ ap (λ (o : Option ℕ). is_some o) (taken_found (λ (other : ℕ). other == c.args.id) c.args.self.now.ids.items c.in-Some.i c.args.self.now.ids.len c.remove.result (sym at ∙ c.in-Some.is) c.args.self.now.ids.ok.0 c.remove.ensures.variant c.remove.ensures.value)

pub returns-in-Some-clause-rest : goal.returns-in-Some-clause-rest
returns-in-Some-clause-rest c =
    let at : c.position.result ≡ position (λ (other : ℕ). other == c.args.id) c.args.self.now.ids.items = position_from_yields_List (λ (other : ℕ). other == c.args.id) _ _ c.position.result c.position.ensures.ran (YieldsList-from_deque c.args.self.now.ids.items c.iter.ensures.rest) (λ x b q k. search (rules, tests)) in
    taken_left (λ (other : ℕ). other == c.args.id) c.args.self.now.ids.items _ c.in-Some.i c.args.self.now.ids.len c.remove.result (sym at ∙ c.in-Some.is) c.args.self.now.ids.ok.0 c.remove.ensures.variant c.remove.ensures.items

pub returns-in-None-clause-found : goal.returns-in-None-clause-found
returns-in-None-clause-found c =
    let at : c.position.result ≡ position (λ (other : ℕ). other == c.args.id) c.args.self.now.ids.items = position_from_yields_List (λ (other : ℕ). other == c.args.id) _ _ c.position.result c.position.ensures.ran (YieldsList-from_deque c.args.self.now.ids.items c.iter.ensures.rest) (λ x b q k. search (rules, tests)) in
    ap (λ (o : Option ℕ). is_some o) (none_found (λ (other : ℕ). other == c.args.id) c.args.self.now.ids.items (sym at ∙ c.in-None.is))

pub returns-in-None-clause-rest : goal.returns-in-None-clause-rest
returns-in-None-clause-rest c =
    let at : c.position.result ≡ position (λ (other : ℕ). other == c.args.id) c.args.self.now.ids.items = position_from_yields_List (λ (other : ℕ). other == c.args.id) _ _ c.position.result c.position.ensures.ran (YieldsList-from_deque c.args.self.now.ids.items c.iter.ensures.rest) (λ x b q k. search (rules, tests)) in
    none_rest (λ (other : ℕ). other == c.args.id) c.args.self.now.ids.items (sym at ∙ c.in-None.is)
