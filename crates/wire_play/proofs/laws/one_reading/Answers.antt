use Rattle.wire_play.proofs.Readings.{one_named}
use Rattle.wire_play.proofs.laws.one_reading.Goals as goal

pub returns : goal.returns
returns c = one_named
