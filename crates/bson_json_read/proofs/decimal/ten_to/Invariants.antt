use Rattle.std.proofs.Common.{◌≡◌, ◌^◌}
use Rattle.bson_json_read.proofs.decimal.ten_to.Given as goal

abbrev pub invariant-loop : goal.invariant-loop
invariant-loop l = l.power ≡ 10 ^ l.counter
