use Rattle.wire_msg.proofs.StandingLaws.{whole_read}
use Rattle.wire_msg.proofs.laws.whole_has_good_header.Goals as goal

pub returns : goal.returns
returns c = λ limit bytes rest m w. let r = whole_read limit bytes rest m w in (r.good, r.announced)
