use Rattle.std.proofs.Common.{rules, ◌≤◌, ◌++◌, ◌∙◌, [], List, ℕ, sym, subst, append_assoc, append-nil}
use Rattle.std.proofs.KnownBytes.{Appends-trans}
use Rattle.bson_raw.specs.RawIter.{pairs_bound}
use Rattle.bson_json.specs.Json.{IsPairsJson, closing}
use Rattle.bson_json.proofs.Walking.{held_spelled, pairs-held, pairs-leaf, pairs-none}
use Rattle.bson_json.proofs.pairs.write_to_held.Goals as goal

pub loop-name-preserved : goal.loop-name-preserved
loop-name-preserved g c =
    let fewer : pairs_bound c.next.new.self ≤ pairs_bound c.args.pairs.now = search rules in (
      tt,
      tt,
      c.in-Some.ensures.steps.0 ∙ c.loop-name.invariant.2,
      fewer,
      λ whole spelled.
          let left = c.loop-name.invariant.4 whole spelled in
          let pair = c.in-Some.ensures.steps.1.0 left.0 left.2 in
          let v = pair.tree_value in
          let written = c.in_ok-write_pair.ensures v pair.shown in
          let none = c.in_default-of.ensures.tree v pair.shown in (
            pair.others,
            left.1 ++ written.0,
            pair.left,
            Appends-trans _ _ _ left.1 written.0 left.3 written.2,
            λ rest others.
                let here = pairs-leaf c.args.mode c.args.holder c.loop-name.first c.in-Some.name.now v pair.others written.0 rest none written.1 others in
                let first = subst (λ x. IsPairsJson c.args.mode c.args.holder c.loop-name.first x (written.0 ++ rest)) (sym pair.is_first) here in
                subst (IsPairsJson c.args.mode c.args.holder c.args.first whole) (sym (append_assoc left.1 written.0 rest)) (left.4 (written.0 ++ rest) first),
          ),
    )

pub returns-in-Some-of-clause-pairs : goal.returns-in-Some-of-clause-pairs
returns-in-Some-of-clause-pairs g c = λ whole spelled.
    let left = c.loop-name.invariant.4 whole spelled in
    let pair = c.in-Some.ensures.steps.1.0 left.0 left.2 in
    let v = pair.tree_value in
    let written = c.in_ok-write_pair.ensures v pair.shown in
    let held = c.in-Some-of.ensures.tree v pair.shown in
    record {
      inner = held.0;
      others = pair.others;
      text = left.1 ++ written.0;
      spelled = held_spelled v c.in-Some-of.held held.0 held.1;
      left = pair.left;
      written = Appends-trans _ _ _ left.1 written.0 left.3 written.2;
      whole = λ inside rest inner others.
          let here = pairs-held c.args.mode c.args.holder c.loop-name.first c.in-Some.name.now v c.in-Some-of.held held.0 pair.others written.0 inside rest held.1 written.1 inner others in
          let tail : List ℕ = inside ++ (closing c.in-Some-of.held.kind ++ rest) in
          let first = subst (λ x. IsPairsJson c.args.mode c.args.holder c.loop-name.first x (written.0 ++ tail)) (sym pair.is_first) here in
          subst (IsPairsJson c.args.mode c.args.holder c.args.first whole) (sym (append_assoc left.1 written.0 tail)) (left.4 (written.0 ++ tail) first);
    }

pub returns-clause-pairs : goal.returns-clause-pairs
returns-clause-pairs g c = λ whole spelled.
    let left = c.loop-name.invariant.4 whole spelled in
    let none = c.in_default.ensures.steps.1 left.0 left.2 in
    let ended = subst (λ x. IsPairsJson c.args.mode c.args.holder c.loop-name.first x []) (sym none) (pairs-none c.args.mode c.args.holder c.loop-name.first) in
    (left.1, subst (IsPairsJson c.args.mode c.args.holder c.args.first whole) (append-nil left.1) (left.4 [] ended), left.3)
