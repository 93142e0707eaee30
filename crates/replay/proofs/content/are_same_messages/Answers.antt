use Rattle.std.proofs.Common.{List, ℕ, Bor, map, sym, ◌∙◌}
use Rattle.replay.proofs.Comparing.{are_two, is_one, not_true, told_by_sequences}
use Rattle.replay.proofs.content.are_same_messages.Goals as goal

pub returns-then-more_to_come : goal.returns-then-more_to_come
returns-then-more_to_come c = λ m n spelled spells. (
  (λ no. absurd (not_true no)),
  (λ alike. absurd (are_two c.more_to_come.result c.more_to_come-2.result c.if-more_to_come.true (c.more_to_come.ensures m spelled ∙ alike.0 ∙ sym (c.more_to_come-2.ensures n spells)))),
)

pub returns : goal.returns
returns c = λ m n spelled spells.
    let names : List (List ℕ) = map (λ (name : Bor (List ℕ)). name.now) c.args.names.now in
    told_by_sequences names m n c.are_same_sequences.result
    (sym (c.more_to_come.ensures m spelled) ∙ is_one c.more_to_come.result c.more_to_come-2.result c.if-more_to_come.false ∙ c.more_to_come-2.ensures n spells)
    ((c.in_ok-are_same.ensures m.content.body n.content.body (c.body.ensures m.content (c.payload-a.ensures m spelled)) (c.body-2.ensures n.content (c.payload-b.ensures n spells))).0 c.if-not-branch.false)
    (c.are_same_sequences.ensures m.content n.content (c.payload-a.ensures m spelled) (c.payload-b.ensures n spells))
