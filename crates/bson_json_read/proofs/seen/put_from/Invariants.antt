use Rattle.std.proofs.Common.{◌≡◌, ◌<◌, ◌≤◌, ℕ, get_or}
use Rattle.bson_json_read.proofs.seen.put_from.Given as goal

abbrev pub invariant-loop-at : goal.invariant-loop-at
invariant-loop-at l = ((k : ℕ) → l.first ≤ k → k < l.at → (0 < get_or l.places.items k 0) × (get_or l.places.items k 0 ≡ l.code → ⊥)) × (l.places.items ≡ l.fn.places.items)
