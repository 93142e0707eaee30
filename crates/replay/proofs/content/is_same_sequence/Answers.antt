use Rattle.std.proofs.Common.{◌≡◌, List, ℕ, Bor, map, rules, sym, ◌∙◌}
use Rattle.replay.proofs.Comparing.{told_by_documents}
use Rattle.replay.proofs.content.is_same_sequence.Goals as goal

pub returns : goal.returns
returns c = λ q r e are f they.
    let names : List (List ℕ) = map (λ (n : Bor (List ℕ)). n.now) c.args.names.now in
    let one : c.args.recorded.0.now ≡ c.args.received.0.now = search rules in
    told_by_documents names q r c.are_same_lists.result (sym e ∙ one ∙ f) (c.are_same_lists.ensures q.documents r.documents are they)
