use Rattle.std.proofs.Common.{◌≡◌, ℕ, ◌+◌, true, false, List, [], ◌∷◌, ◌++◌, length, refl, sym, ap, ◌∙◌, arith, append_assoc, length-append}
use Rattle.std.proofs.lemmas.Bool.{cond-true, cond-false}
use Rattle.bson_raw.specs.Pairs.{names_of, is_among, first_repeated}
use Rattle.bson_raw.proofs.CountLaws.{count_fits, length-names_of-le}
use Rattle.bson_raw.proofs.PairLaws.{names_of-with_first, first_repeated-with_first, seen_are}
use Rattle.bson_raw.proofs.document.RawDocument.first_repeated_name.Goals as goal

pub loop-name-init : goal.loop-name-init
loop-name-init c = (tt, tt, λ t spelled. ([], t, rw c.into_iter-name-iterator.ensures.into_iter_gives (c.iter-name-items.ensures.pairs t spelled), refl, refl, refl))

pub returns-then-is_among_first : goal.returns-then-is_among_first
returns-then-is_among_first c = λ t spelled.
    let left = c.loop-name.invariant.2 t spelled in
    let first = c.in-Some.ensures.steps.1.0 left.1 left.2 in
    let among : is_among c.in-Some.name.now left.0 ≡ true =
    ap (is_among c.in-Some.name.now) (sym (seen_are (names_of t) left.0 (names_of left.1) c.loop-name.before left.3 left.4)) ∙ sym (c.is_among_first.ensures t spelled) ∙ c.if-is_among_first.true in
    left.5 ∙ ap (first_repeated left.0) first.is_first ∙ first_repeated-with_first left.0 c.in-Some.name.now first.tree_value first.others ∙ cond-true _ _ _ among

pub overflow_add-before : goal.overflow_add-before
overflow_add-before c =
    count_fits (c.loop-name.before + 1) c.args.self.bytes.now c.args.self.spelled (λ t spelled.
    let left = c.loop-name.invariant.2 t spelled in
    let first = c.in-Some.ensures.steps.1.0 left.1 left.2 in
    let names = ap names_of first.is_first ∙ names_of-with_first c.in-Some.name.now first.tree_value first.others in
    omega (arith, length-names_of-le t, ap length left.3, length-append left.0 (names_of left.1), left.4, ap length names))

pub loop-name-preserved : goal.loop-name-preserved
loop-name-preserved c = (
  tt,
  tt,
  λ t spelled.
      let left = c.loop-name.invariant.2 t spelled in
      let first = c.in-Some.ensures.steps.1.0 left.1 left.2 in
      let names = ap names_of first.is_first ∙ names_of-with_first c.in-Some.name.now first.tree_value first.others in
      let among : is_among c.in-Some.name.now left.0 ≡ false =
      ap (is_among c.in-Some.name.now) (sym (seen_are (names_of t) left.0 (names_of left.1) c.loop-name.before left.3 left.4)) ∙ sym (c.is_among_first.ensures t spelled) ∙ c.if-is_among_first.false in (
        left.0 ++ c.in-Some.name.now ∷ [],
        first.others,
        first.left,
        left.3 ∙ ap (λ (x : List (List ℕ)). left.0 ++ x) names ∙ sym (append_assoc left.0 (c.in-Some.name.now ∷ []) (names_of first.others)),
        omega (arith, left.4, length-append left.0 (c.in-Some.name.now ∷ [])),
        left.5 ∙ ap (first_repeated left.0) first.is_first ∙ first_repeated-with_first left.0 c.in-Some.name.now first.tree_value first.others ∙ cond-false _ _ _ among,
      ),
)
