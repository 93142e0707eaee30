use Rattle.std.proofs.Common.{◌≡◌, drop, map}
use Rattle.bson_raw.specs.Pairs.{is_among}
use Rattle.replay.proofs.ignored.is_among.Given as goal

abbrev pub invariant-loop-ignored : goal.invariant-loop-ignored
invariant-loop-ignored l = is_among l.name (map (λ n. n.now) (drop l.ignored-index l.names)) ≡ is_among l.name (map (λ n. n.now) l.names)
