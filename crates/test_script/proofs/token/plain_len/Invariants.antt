use Rattle.std.proofs.Common.{◌≡◌, ◌+◌, length}
use Rattle.test_script.specs.Tokens.{plain_len}
use Rattle.test_script.proofs.token.plain_len.Given as goal

abbrev pub invariant-loop-b : goal.invariant-loop-b
invariant-loop-b l =
    (plain_len l.text ≡ l.len + plain_len l.rest) × (l.len + length l.rest ≡ length l.text)

abbrev pub decreases-loop-b : goal.decreases-loop-b
decreases-loop-b l = length l.rest
