use Rattle.std.proofs.Common.{◌≡◌, ◌≤◌, ◌++◌, drop}
use Rattle.arrayvec.specs.ArrayVec.{array_vec_len}
use Rattle.bson_json_read.specs.Bytes.{without_hyphens}
use Rattle.bson_json_read.proofs.bytes.without_hyphens.Given as goal

abbrev pub invariant-loop-b : goal.invariant-loop-b
invariant-loop-b l =
    (l.digits.items ++ without_hyphens (drop l.b-index l.bytes) ≡ without_hyphens l.bytes)
    × (array_vec_len l.digits ≤ l.b-index)
