use Rattle.std.proofs.Common.{◌≡◌, ◌==◌, sym, ◌∙◌, rules, tests}
use Rattle.std.specs.Prelude.{position}
use Rattle.std.proofs.lemmas.Iterator.Consumers.{YieldsList-from_deque}
use Rattle.std.proofs.lemmas.Iterator.Search.{position_from_yields_List}
use Rattle.replay.proofs.FirstOnes.{none_found, none_rest, taken_found, taken_left}
use Rattle.replay.specs.declared.asked.Request.{Request}
use Rattle.replay.proofs.asked.Asked.take.Goals as goal

pub returns-in-Some-clause-found : goal.returns-in-Some-clause-found
returns-in-Some-clause-found c =
    let at : c.position.result ≡ position (λ (request : Request). request.id == c.args.id) c.args.self.now.requests.items = position_from_yields_List (λ (request : Request). request.id == c.args.id) _ _ c.position.result c.position.ensures.ran (YieldsList-from_deque c.args.self.now.requests.items c.iter.ensures.rest) (λ x b q k. search (rules, tests)) in
    taken_found (λ (request : Request). request.id == c.args.id) c.args.self.now.requests.items c.in-Some.i c.args.self.now.requests.len c.remove.result (sym at ∙ c.in-Some.is) c.args.self.now.requests.ok.0 c.remove.ensures.variant c.remove.ensures.value

pub returns-in-Some-clause-rest : goal.returns-in-Some-clause-rest
returns-in-Some-clause-rest c =
    let at : c.position.result ≡ position (λ (request : Request). request.id == c.args.id) c.args.self.now.requests.items = position_from_yields_List (λ (request : Request). request.id == c.args.id) _ _ c.position.result c.position.ensures.ran (YieldsList-from_deque c.args.self.now.requests.items c.iter.ensures.rest) (λ x b q k. search (rules, tests)) in
    taken_left (λ (request : Request). request.id == c.args.id) c.args.self.now.requests.items _ c.in-Some.i c.args.self.now.requests.len c.remove.result (sym at ∙ c.in-Some.is) c.args.self.now.requests.ok.0 c.remove.ensures.variant c.remove.ensures.items

pub returns-in-None-clause-found : goal.returns-in-None-clause-found
returns-in-None-clause-found c =
    let at : c.position.result ≡ position (λ (request : Request). request.id == c.args.id) c.args.self.now.requests.items = position_from_yields_List (λ (request : Request). request.id == c.args.id) _ _ c.position.result c.position.ensures.ran (YieldsList-from_deque c.args.self.now.requests.items c.iter.ensures.rest) (λ x b q k. search (rules, tests)) in
    none_found (λ (request : Request). request.id == c.args.id) c.args.self.now.requests.items (sym at ∙ c.in-None.is)

pub returns-in-None-clause-rest : goal.returns-in-None-clause-rest
returns-in-None-clause-rest c =
    let at : c.position.result ≡ position (λ (request : Request). request.id == c.args.id) c.args.self.now.requests.items = position_from_yields_List (λ (request : Request). request.id == c.args.id) _ _ c.position.result c.position.ensures.ran (YieldsList-from_deque c.args.self.now.requests.items c.iter.ensures.rest) (λ x b q k. search (rules, tests)) in
    none_rest (λ (request : Request). request.id == c.args.id) c.args.self.now.requests.items (sym at ∙ c.in-None.is)
