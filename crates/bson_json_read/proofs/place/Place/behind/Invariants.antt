use Rattle.std.proofs.Common.{◌≡◌, ◌+◌, ◌<◌, ◌^◌, length}
use Rattle.bson_json_read.specs.Places.{place_behind}
use Rattle.bson_json_read.proofs.place.Place.behind.Given as goal

abbrev pub invariant-loop-len : goal.invariant-loop-len
invariant-loop-len l =
    (place_behind l.place.line l.place.column l.rest ≡ place_behind l.fn.self.line l.fn.self.column l.bytes)
    × (l.place.line + length l.rest < 2 ^ 64) × (l.place.column + length l.rest < 2 ^ 64)

abbrev pub decreases-loop-len : goal.decreases-loop-len
decreases-loop-len l = length l.rest
