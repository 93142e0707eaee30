use Rattle.std.proofs.Common.{◌≡◌, ◌+◌, ◌^◌, ◌<◌, ◌≤◌, drop}
use Rattle.bson_json_read.specs.DecimalText.{coefficient_of}
use Rattle.bson_json_read.proofs.decimal.more_digits.Given as goal

abbrev pub invariant-loop-d : goal.invariant-loop-d
invariant-loop-d l =
    (coefficient_of l.c l.left_out (drop l.d-index l.digits) ≡ coefficient_of l.fn.c l.fn.left_out l.digits)
    × (l.c < 10 ^ 34) × (l.left_out ≤ l.fn.left_out + l.d-index)
