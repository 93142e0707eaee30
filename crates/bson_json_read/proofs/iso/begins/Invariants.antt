use Rattle.std.proofs.Common.{◌≡◌, drop}
use Rattle.bson_json_read.specs.Iso.{begins}
use Rattle.bson_json_read.proofs.iso.begins.Given as goal

abbrev pub invariant-loop-i : goal.invariant-loop-i
invariant-loop-i l = begins (drop l.i l.pattern) (drop l.i l.bytes) ≡ begins l.pattern l.bytes
