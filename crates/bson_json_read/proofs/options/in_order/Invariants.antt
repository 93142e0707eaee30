use Rattle.std.proofs.Common.{◌≡◌}
use Rattle.std.specs.String.{string_bytes}
use Rattle.bson_json.specs.{in_order}
use Rattle.bson_json_read.proofs.options.in_order.Given as goal

abbrev pub invariant-loop-code : goal.invariant-loop-code
invariant-loop-code l = string_bytes l.ordered ≡ in_order l.code l.options
