use Rattle.std.proofs.Common.{◌≡◌, ◌++◌, ◌∷◌, [], ◌∙◌, ℕ, List, Option, None, ap, max, sym}
use Rattle.replay.specs.declared.answers.Answer.{Answer}
use Rattle.replay.specs.Matchings.{Seen, awaiting, first_to, is_to, open_behind, paired, seen}
use Rattle.replay.proofs.FirstOnes.{untouched}
use Rattle.replay.proofs.matching.Matching.expect.Goals as goal

pub returns-in_ok-push-in-None-clause-state : goal.returns-in_ok-push-in-None-clause-state
returns-in_ok-push-in-None-clause-state c =
    let a : Answer = c.args.recorded in
    let s : Seen = seen c.args.self.now in
    let made : List Answer → List Answer → List ℕ → Seen = λ x y z. record { awaited = x; early = y; open_ids = z; given_up_ids = s.given_up_ids } in
    let none : first_to a.request s.early ≡ None = sym c.take.ensures.found ∙ c.in-None.is in
    let same : c.take.new.self.list.items ≡ s.early = c.take.ensures.rest ∙ untouched (is_to a.request) s.early none in
    let due : c.max-due.result ≡ max c.last_due.result a.due = c.max-due.ensures in
    let pushed : c.push-in-None.new.self.list.items ≡ awaiting a s.awaited =
    c.in_ok-push-in-None.ensures ∙ ap (λ (d : ℕ). s.awaited ++ record a { due = d } ∷ []) (due ∙ ap (λ (n : ℕ). max n a.due) c.last_due.ensures) in
    ap (λ (x : List Answer). made x c.take.new.self.list.items c.take_unless.new.self.ids.items) pushed
    ∙ ap (λ (y : List Answer). made (awaiting a s.awaited) y c.take_unless.new.self.ids.items) same
    ∙ ap (λ (z : List ℕ). made (awaiting a s.awaited) s.early z) c.take_unless.ensures
    ∙ ap (λ (o : Option Answer). (paired a (record s { open_ids = open_behind a s.open_ids }) o).0) (sym none)
