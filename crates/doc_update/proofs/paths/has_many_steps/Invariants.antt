use Rattle.std.proofs.Common.{◌≡◌, ◌≤◌, take}
use Rattle.std.specs.Prelude.{◌==◌}
use Rattle.std.specs.List.{count_by}
use Rattle.doc_update.proofs.paths.has_many_steps.Given as goal

abbrev pub invariant-loop-byte : goal.invariant-loop-byte
invariant-loop-byte l = record {
  counted : count_by (λ b. b == 46) (take l.byte-index l.path) ≡ l.dots;
  few : l.dots ≤ l.byte-index;
}
