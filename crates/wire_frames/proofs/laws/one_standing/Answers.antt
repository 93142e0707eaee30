use Rattle.wire_frames.proofs.FrontLaws.{lacking_not_whole, wants_not_lacking, wants_not_whole}
use Rattle.wire_frames.proofs.laws.one_standing.Goals as goal

pub returns : goal.returns
returns c = record { open_or_whole = wants_not_whole; open_or_bad = wants_not_lacking; bad_or_whole = lacking_not_whole }
