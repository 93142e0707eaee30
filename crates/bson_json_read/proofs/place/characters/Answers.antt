use Rattle.std.proofs.Common.{ap, arith, count_ones}
use Rattle.bson_json_read.proofs.PlaceLemmas.{characters_on}
use Rattle.bson_json_read.proofs.place.characters.Goals as goal

pub loop-at-preserved : goal.loop-at-preserved
loop-at-preserved c =
    let on = characters_on c.args.bytes.now c.loop-at.at (omega (arith, c.loop-at-test.true, c.loop-at.invariant.2)) in
    let ones = ap count_ones c.begins.ensures in
    (omega (arith, on.0, ones, c.loop-at.invariant.0), omega (arith, on.1, ones, c.loop-at.invariant.1), omega (arith, c.loop-at-test.true, c.loop-at.invariant.2))
