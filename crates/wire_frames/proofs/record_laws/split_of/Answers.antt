use Rattle.wire_frames.proofs.RecordItems.{to_end, to_split}
use Rattle.wire_frames.proofs.record_laws.split_of.Goals as goal

pub returns : goal.returns
returns c = record {
  split = (c.split_of.ensures.split.0, to_split _ _ _ _ c.split_of.ensures.split.1);
  ends = to_end _ _ c.split_of.ensures.ends;
}
