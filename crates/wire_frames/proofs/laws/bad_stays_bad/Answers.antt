use Rattle.wire_frames.proofs.FrontLaws.{lacking_longer}
use Rattle.wire_frames.proofs.laws.bad_stays_bad.Goals as goal

pub returns : goal.returns
returns c = lacking_longer
