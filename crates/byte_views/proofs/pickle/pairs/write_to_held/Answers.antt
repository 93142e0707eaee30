use Rattle.std.proofs.Common.{rules, ◌<◌, ◌++◌, ◌∙◌, arith}
use Rattle.std.proofs.KnownBytes.{Appends-trans}
use Rattle.bson_raw.specs.{pairs_bound}
use Rattle.byte_views.specs.Pickles.{label}
use Rattle.byte_views.proofs.PickleLaws.{held_counted, held_spelled, held_written, inner_of, leaf_counted, leaf_written, name_at_most_one}
use Rattle.byte_views.proofs.pickle.pairs.write_to_held.Goals as goal

pub loop-name-preserved : goal.loop-name-preserved
loop-name-preserved g c =
    let fewer : pairs_bound c.next_inlined.new.self < pairs_bound c.loop-name.pairs = search rules in
    record {
      walked = c.in-Some.ensures.steps.0 ∙ c.loop-name.invariant.walked;
      each = c.loop-name.invariant.each;
      passed = omega (arith, fewer, c.loop-name.invariant.passed, c.loop-name.invariant.each, name_at_most_one c.args.holder);
      so_far = λ whole spelled.
          let left = c.loop-name.invariant.so_far whole spelled in
          let pair = c.in-Some.ensures.steps.1.0 left.0 left.2 in
          let v = pair.tree_value in
          let name = label c.args.holder c.in-Some.name.now in
          let front = rw c.in_default-2.is at (c.in_ok-held.ensures.front v pair.shown) in (
            pair.others,
            left.1 ++ (name ++ front.0),
            pair.left,
            Appends-trans _ _ _ left.1 (name ++ front.0) left.3 (Appends-trans _ _ _ name front.0 c.in_ok-write_label.ensures front.2),
            leaf_written c.args.holder c.in-Some.name.now v whole left.0 pair.others left.1 front.0 left.4 pair.is_first front.1,
            leaf_counted c.args.holder c.in-Some.name.now v whole left.0 pair.others c.loop-name.names c.names_of_one-each.result front.0 left.5 pair.is_first front.1 c.loop-name.invariant.each,
          );
    }

pub returns-in-Some-2-clause-pairs : goal.returns-in-Some-2-clause-pairs
returns-in-Some-2-clause-pairs g c = λ whole spelled.
    let left = c.loop-name.invariant.so_far whole spelled in
    let pair = c.in-Some.ensures.steps.1.0 left.0 left.2 in
    let v = pair.tree_value in
    let h = c.in-Some-2.held in
    let name = label c.args.holder c.in-Some.name.now in
    let front = rw c.in-Some-2.is at (c.in_ok-held.ensures.front v pair.shown) in
    record {
      inner = inner_of v;
      others = pair.others;
      text = left.1 ++ (name ++ front.0);
      spelled = held_spelled v h front.0 front.1;
      left = pair.left;
      written = Appends-trans _ _ _ left.1 (name ++ front.0) left.3 (Appends-trans _ _ _ name front.0 c.in_ok-write_label.ensures front.2);
      whole = held_written c.args.holder c.in-Some.name.now v h whole left.0 pair.others left.1 front.0 left.4 pair.is_first front.1;
      counted = held_counted c.args.holder c.in-Some.name.now v h whole left.0 pair.others c.loop-name.names c.names_of_one-each.result front.0 left.5 pair.is_first front.1 c.loop-name.invariant.each;
    }

pub returns-in-Some-2-clause-fewer : goal.returns-in-Some-2-clause-fewer
returns-in-Some-2-clause-fewer g c = λ whole spelled.
    let left = c.loop-name.invariant.so_far whole spelled in
    let pair = c.in-Some.ensures.steps.1.0 left.0 left.2 in
    let v = pair.tree_value in
    let front = rw c.in-Some-2.is at (c.in_ok-held.ensures.front v pair.shown) in
    omega (arith, held_counted c.args.holder c.in-Some.name.now v c.in-Some-2.held whole left.0 pair.others c.loop-name.names c.names_of_one-each.result front.0 left.5 pair.is_first front.1 c.loop-name.invariant.each)
