use Rattle.std.proofs.Common.{◌≡◌, is_lt, not, rules}
use Rattle.std.proofs.lemmas.Fn.{always_returns_same}
use Rattle.std.proofs.lemmas.List.Sorted.{answers_always}
use Rattle.doc_update.proofs.Overlaps.{below, below_order, meet, neighbours}
use Rattle.doc_update.proofs.paths.overlap_within.Goals as goal

pub returns : goal.returns
returns c =
    let sorted = c.in_ok-sort_by.ensures.sorted below below_order (always_returns_same _ (λ a r. is_lt r ≡ below a.0.now a.1.0.now) _ (λ a r f' k. search rules)) in
    let answer = c.is_sorted_by.ensures.cases (λ p q. not (meet p q)) (answers_always _ _ _ (λ f a r g called. search rules)) in
    neighbours c.args.paths.items c.sort_by.new.self.items c.is_sorted_by.result c.sort_by.ensures.permutation sorted (rw c.deref.ensures.value at answer)
