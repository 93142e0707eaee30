use Rattle.std.proofs.Common.{◌≡◌, ◌+◌, ◌≤◌, drop}
use Rattle.bson_json_read.specs.Places.{characters}
use Rattle.bson_json_read.proofs.place.characters_of_few.Given as goal

abbrev pub invariant-loop-b : goal.invariant-loop-b
invariant-loop-b l = (characters l.bytes ≡ l.count + characters (drop l.b-index l.bytes)) × (l.count ≤ l.b-index)
