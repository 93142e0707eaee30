-- What is shown of what a server did, and how much of it is counted.
use Rattle.std.proofs.Common.{◌≡◌, ◌≤◌, ◌<◌, ◌+◌, ◌-◌, ℕ, true, List, [], Option, Some, None, Result, Ok, Err, refl, sym, subst, append-nil, inl, inr, arith}
use Rattle.std.specs.Prelude.{OnOk, min}
use Rattle.std.specs.Io.KnownBytes.{Appends, Keeps}
use Rattle.script_rules.specs.{RuleView}
use Rattle.bsonserver.specs.Runs.{AreRead, Connected, EndsSo, GoesOnServing, IsEnough, IsRefused, IsRun, ShowsServing, script_file}
use Rattle.bsonserver.specs.declared.choice.Choice.{Choice}
use Rattle.bsonserver.specs.declared.ending.ServingEnd.{ServingEnd}
use Rattle.bsonserver.specs.declared.ending.ServingEnd.TheVariants as runs

nothing_more : (a : Option (List ℕ)) → Appends a a []
nothing_more None = tt
nothing_more (Some x) = sym (append-nil x)

-- a quiet server shows nothing of what it does
pub quiet_shows : {E : Type 0} (r : Result (Unit {0}) E) (old new : Connected) (a : Option (List ℕ))
    → OnOk r (GoesOnServing old new None None) → OnOk r (ShowsServing true old new a a)
quiet_shows (Ok u) old new a served = λ first replies ended text serving.
    let went = served first replies ended text serving in (went.0, went.1, went.2, nothing_more a)
quiet_shows (Err e) old new a served = tt

-- ---- how a run ends

all_kept : (a : Option (List ℕ)) → Keeps a a
all_kept None = tt
all_kept (Some x) = refl

-- a run whose script wasn't read ends so
pub refused_ends : (choice : Choice) (end : ServingEnd) (a : Option (List ℕ)) → IsRefused (script_file choice) end → EndsSo choice end a a
refused_ends choice (runs.Served n) a refused = absurd refused
refused_ends choice (runs.Script fault) a refused = (refused, all_kept a)
refused_ends choice (runs.ScriptFile error) a refused = (refused, all_kept a)
refused_ends choice (runs.Stopped why) a refused = tt

-- a run by the rules that were read ends so
pub run_ends : (choice : Choice) (rules replies : List RuleView) (end : ServingEnd) (a b : Option (List ℕ)) → AreRead (script_file choice) rules replies → IsRun choice rules replies end a b
    → EndsSo choice end a b
run_ends choice rules replies (runs.Served n) a b read ran = (rules, replies, read, ran)
run_ends choice rules replies (runs.Script fault) a b read ran = absurd ran
run_ends choice rules replies (runs.ScriptFile error) a b read ran = absurd ran
run_ends choice rules replies (runs.Stopped why) a b read ran = tt

-- ---- counts

at_most : (n : ℕ) → min n 18446744073709551615 ≤ n
at_most n = grind arith

-- as many as are counted are enough only where as many as there are
pub enough_of : (choice : Choice) (n e : ℕ) → e ≡ min n 18446744073709551615 → IsEnough choice e → IsEnough choice n
enough_of choice n e is (inl enough) = inl (omega (arith, subst (λ x. choice.connections ≤ x) is enough, at_most n))
enough_of choice n e is (inr closes) = inr closes

min_of_sum : (n k d : ℕ) → min (min n (k + d)) k ≡ min n k
min_of_sum n k d = grind arith

pub min_under : (n k : ℕ) → k < 18446744073709551616 → min (min n 18446744073709551615) k ≡ min n k
min_under n k fits =
    let whole : k + (18446744073709551615 - k) ≡ 18446744073709551615 = omega (arith, fits) in
    subst (λ m. min (min n m) k ≡ min n k) whole (min_of_sum n k (18446744073709551615 - k))
