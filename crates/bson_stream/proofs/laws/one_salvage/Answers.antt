use Rattle.bson_stream.proofs.OneSalvage.{one_salvage}
use Rattle.bson_stream.proofs.laws.one_salvage.Goals as goal

pub returns : goal.returns
returns c = record { same = one_salvage }
