use Rattle.wire_frames.proofs.RecordLaws.{faulty_longer}
use Rattle.wire_frames.proofs.record_laws.bad_stays_bad.Goals as goal

pub returns : goal.returns
returns c = faulty_longer
