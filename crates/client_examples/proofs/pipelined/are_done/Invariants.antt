use Rattle.std.proofs.Common.{◌≡◌, ◌<◌, ℕ, Some, slice_get}
use Rattle.wire_model.specs.{Done, Record}
use Rattle.client_examples.proofs.pipelined.are_done.Given as goal

-- each call before this one is done
abbrev pub invariant-loop-number : goal.invariant-loop-number
invariant-loop-number g l =
    (n : ℕ) → n < l.number → (x : Record) × (slice_get l.end.own.records n ≡ Some x) × (x.state ≡ Done)
