use Rattle.std.proofs.Common.{◌≡◌, ◌++◌, ℕ, List, drop}
use Rattle.bson_json_read.specs.Sequences.{next_in}
use Rattle.bson_json_read.proofs.seek.seek.Given as goal

-- what is next, alone and whatever follows
abbrev pub invariant-loop-b : goal.invariant-loop-b
invariant-loop-b l =
    (next_in l.fn.frame l.rest ≡ next_in l.at (drop l.b-index l.rest)) × (l.passed ≡ l.b-index)
    × ((more : List ℕ) → next_in l.fn.frame (l.rest ++ more) ≡ next_in l.at (drop l.b-index l.rest ++ more))
