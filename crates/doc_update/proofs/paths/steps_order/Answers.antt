use Rattle.std.proofs.Common.{◌≡◌, lit<, refl}
use Rattle.std.specs.Cmp.Lexicographic.{slice_cmp}
use Rattle.std.specs.Ordering.{nat_cmp}
use Rattle.std.proofs.lemmas.Iterator.Consumers.{YieldsList-at}
use Rattle.std.proofs.lemmas.Iterator.Search.{cmp_from_yields_List}
use Rattle.std.proofs.lemmas.Iterator.Splits.{YieldsList-from_str_split}
use Rattle.doc_query.specs.{steps}
use Rattle.doc_update.proofs.paths.steps_order.Goals as goal

pub returns : goal.returns
returns c =
    cmp_from_yields_List {xs = steps c.args.a.now} {ys = steps c.args.b.now} (λ x y. y ≡ x) _ (slice_cmp nat_cmp) _ c.cmp.ensures.ran
    (YieldsList-from_str_split 46 c.args.a.now (lit< tt) c.split.ensures.text c.split.ensures.has_more c.split.ensures.pattern)
    (λ it e. YieldsList-at e (YieldsList-from_str_split 46 c.args.b.now (lit< tt) c.split-2.ensures.text c.split-2.ensures.has_more c.split-2.ensures.pattern))
    (λ x y. refl)
