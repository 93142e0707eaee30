use Rattle.std.proofs.Common.{◌≡◌, ◌==◌, ◌∙◌, ℕ, Option, ap, length, rules, sym, tests}
use Rattle.std.specs.Prelude.{position, unwrap_or}
use Rattle.std.proofs.lemmas.Iterator.{YieldsList-from_slice}
use Rattle.std.proofs.lemmas.Iterator.Search.{position_from_yields_List}
use Rattle.replay.specs.declared.conn.Conn.{Conn}
use Rattle.replay.proofs.lanes.Lanes.place_of.Goals as goal

pub returns-in-Some : goal.returns-in-Some
returns-in-Some g c =
    let at : c.position.result ≡ position (λ (x : Conn g.row.L.Denot). x.number == c.args.number) c.args.self.now.conns.items = position_from_yields_List (λ (x : Conn g.row.L.Denot). x.number == c.args.number) _ _ c.position.result c.position.ensures.ran (YieldsList-from_slice c.args.self.now.conns.items cc) (λ x b q k. search (rules, tests)) in
    sym (ap (λ (o : Option ℕ). unwrap_or o (length c.args.self.now.conns.items)) (sym at ∙ c.in-Some.is))

pub returns-in-None : goal.returns-in-None
returns-in-None g c =
    let at : c.position.result ≡ position (λ (x : Conn g.row.L.Denot). x.number == c.args.number) c.args.self.now.conns.items = position_from_yields_List (λ (x : Conn g.row.L.Denot). x.number == c.args.number) _ _ c.position.result c.position.ensures.ran (YieldsList-from_slice c.args.self.now.conns.items cc) (λ x b q k. search (rules, tests)) in
    c.len.ensures ∙ sym (ap length (sym c.deref.ensures.value) ∙ c.deref.ensures.len) ∙ sym (ap (λ (o : Option ℕ). unwrap_or o (length c.args.self.now.conns.items)) (sym at ∙ c.in-None.is))
