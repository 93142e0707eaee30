use Rattle.std.proofs.Common.{◌∙◌, ap, arith, sym}
use lib.Count.{count_trailing_zeros}
use Rattle.json.specs.Run.{is_plain}
use Rattle.bson_json_read.proofs.Lanes.{run_bound, run_stops, run_through}
use Rattle.bson_json_read.proofs.run.plain_end.Goals as goal

pub returns-then-found-ne0-clause-value : goal.returns-then-found-ne0-clause-value
returns-then-found-ne0-clause-value c =
    let found = c.stops-found in
    let run = run_stops c.args.text.now c.loop-at.at 16 (omega arith) (omega arith) (omega (arith, found.ensures)) ∙ ap (count_trailing_zeros 64) (sym found.ensures) in
    omega (arith, run, c.loop-at.invariant.0)

pub returns-then-found-ne0-clause-inside : goal.returns-then-found-ne0-clause-inside
returns-then-found-ne0-clause-inside c =
    let found = c.stops-found in
    let run = run_stops c.args.text.now c.loop-at.at 16 (omega arith) (omega arith) (omega (arith, found.ensures)) ∙ ap (count_trailing_zeros 64) (sym found.ensures) in
    omega (arith, run, run_bound is_plain c.args.text.now c.loop-at.at c.loop-at.invariant.1)

pub loop-at-preserved : goal.loop-at-preserved
loop-at-preserved c =
    let run = run_through c.args.text.now c.loop-at.at 16 (omega arith) (omega (arith, c.stops-found.ensures)) in
    (omega (arith, run, c.loop-at.invariant.0), omega arith)

pub returns-clause-inside : goal.returns-clause-inside
returns-clause-inside c = omega (arith, run_bound is_plain c.args.text.now c.loop-at.at c.loop-at.invariant.1)
