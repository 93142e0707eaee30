use Rattle.bson_text.proofs.Indent.{one_level}
use Rattle.bson_text.proofs.text.write_indent.Goals as goal

pub loop-preserved : goal.loop-preserved
loop-preserved g c = one_level _ _ _ c.loop.counter c.loop.invariant c.in_ok-write_all.ensures.bytes
