use Rattle.std.proofs.Common.{◌≡◌, ◌<◌, ℕ, get_or, false, true}
use Rattle.wire_peer.proofs.free_id.first_unmarked.Given as goal

abbrev pub invariant-loop-place : goal.invariant-loop-place
invariant-loop-place l = (k : ℕ) → k < l.place → get_or l.marks k false ≡ true
