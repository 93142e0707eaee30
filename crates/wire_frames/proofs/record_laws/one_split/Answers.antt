use Rattle.wire_frames.proofs.RecordLaws.{one_record_split}
use Rattle.wire_frames.proofs.record_laws.one_split.Goals as goal

pub returns : goal.returns
returns c = one_record_split
