use Rattle.std.proofs.Common.{◌≡◌, ◌*◌, ◌≤◌}
use Rattle.bson_json.specs.Dates.{days_before_month}
use Rattle.bson_json_read.proofs.iso.days_before_month.Given as goal

abbrev pub invariant-loop-earlier : goal.invariant-loop-earlier
invariant-loop-earlier l =
    (1 ≤ l.earlier) × (l.days ≡ days_before_month l.leap l.earlier) × (l.days ≤ 31 * l.earlier)
