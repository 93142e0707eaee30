use Rattle.std.proofs.Common.{◌∙◌, arith, sym}
use Rattle.bson_json_read.proofs.Lexing.{past_space}
use Rattle.bson_json_read.proofs.run.past_more_spaces.Goals as goal

pub loop-at-preserved : goal.loop-at-preserved
loop-at-preserved c =
    (c.loop-at.invariant.0 ∙ past_space c.args.text.now c.loop-at.at c.loop-at-test.true (sym c.is_space.ensures ∙ c.if-is_space.true), omega arith)
