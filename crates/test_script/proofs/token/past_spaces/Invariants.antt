use Rattle.std.proofs.Common.{◌≡◌, length}
use Rattle.test_script.specs.Tokens.{past_spaces}
use Rattle.test_script.proofs.token.past_spaces.Given as goal

abbrev pub invariant-loop-behind : goal.invariant-loop-behind
invariant-loop-behind l = past_spaces l.text ≡ past_spaces l.rest

abbrev pub decreases-loop-behind : goal.decreases-loop-behind
decreases-loop-behind l = length l.rest
