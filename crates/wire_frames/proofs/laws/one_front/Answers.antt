use Rattle.wire_frames.proofs.FrontLaws.{one_front, wants_once}
use Rattle.wire_frames.proofs.laws.one_front.Goals as goal

pub returns : goal.returns
returns c = record { whole = one_front; too_few = wants_once }
