use Rattle.wire_frames.proofs.Heads.{reads_back}
use Rattle.wire_frames.proofs.record_laws.reads_back.Goals as goal

pub returns : goal.returns
returns c = reads_back
