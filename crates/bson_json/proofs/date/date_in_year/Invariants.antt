use Rattle.std.proofs.Common.{◌≡◌, ◌+◌, ◌≤◌}
use Rattle.bson_json.specs.Dates.{days_before_month, is_leap}
use Rattle.bson_json.proofs.date.date_in_year.Given as goal

abbrev pub invariant-loop-left : goal.invariant-loop-left
invariant-loop-left l =
    (1 ≤ l.month) × (l.month ≤ 12) × (days_before_month (is_leap l.fn.year) l.month + l.left ≡ l.days)

abbrev pub decreases-loop-left : goal.decreases-loop-left
decreases-loop-left l = l.left
