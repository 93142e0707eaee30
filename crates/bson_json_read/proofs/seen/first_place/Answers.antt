use Rattle.std.proofs.Common.{refl}
use Rattle.bson_json_read.specs.Seen.{first_place}
use Rattle.bson_json_read.proofs.seen.first_place.Goals as goal

pub returns-clause-place : goal.returns-clause-place
unfolding first_place
returns-clause-place c = refl
