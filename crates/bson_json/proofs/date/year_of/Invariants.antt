use Rattle.std.proofs.Common.{◌-◌, ◌≤◌}
use Rattle.bson_json.specs.Dates.{days_before_year}
use Rattle.bson_json.proofs.date.year_of.Given as goal

abbrev pub invariant-loop-year : goal.invariant-loop-year
invariant-loop-year l = (1970 ≤ l.year) × (days_before_year l.year ≤ l.days)

abbrev pub decreases-loop-year : goal.decreases-loop-year
decreases-loop-year l = 10000 - l.year
