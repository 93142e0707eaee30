use Rattle.std.proofs.Common.{ℕ, List, take, sym, ap, ◌∙◌}
use Rattle.bson_raw.specs.Pairs.{names_of, is_among}
use Rattle.bson_raw.proofs.PairLaws.{names_of-with_first, among_here, among_later}
use Rattle.bson_raw.proofs.document.RawDocument.is_among_first.Goals as goal

pub returns-then-eq : goal.returns-then-eq
returns-then-eq c = λ t spelled.
    let left = c.loop-n.invariant.2 t spelled in
    let first = c.in-Some.ensures.steps.1.0 left.0 left.1 in
    let names = ap names_of first.is_first ∙ names_of-with_first c.in-Some.n.now first.tree_value first.others in
    sym (left.2 ∙ ap (λ (x : List (List ℕ)). is_among c.args.name.now (take c.loop-n.left x)) names
    ∙ among_here c.args.name.now c.in-Some.n.now (names_of first.others) c.loop-n.left c.if-left-eq0.false (sym c.if-eq.ensures))

pub loop-n-preserved : goal.loop-n-preserved
loop-n-preserved c = (
  tt,
  tt,
  λ t spelled.
      let left = c.loop-n.invariant.2 t spelled in
      let first = c.in-Some.ensures.steps.1.0 left.0 left.1 in
      let names = ap names_of first.is_first ∙ names_of-with_first c.in-Some.n.now first.tree_value first.others in (
        first.others,
        first.left,
        left.2 ∙ ap (λ (x : List (List ℕ)). is_among c.args.name.now (take c.loop-n.left x)) names
            ∙ among_later c.args.name.now c.in-Some.n.now (names_of first.others) c.loop-n.left c.if-left-eq0.false (sym c.if-eq.ensures),
      ),
)
