use Rattle.std.proofs.Common.{◌≡◌, ◌++◌, drop, map, take}
use Rattle.wire_pool.specs.Loans.{cleared}
use Rattle.wire_pool.proofs.loans.clear_all.Given as goal

abbrev pub invariant-loop-loan : goal.invariant-loop-loan
invariant-loop-loan l = l.lent ≡ map cleared (take l.loan-index l.fn.lent) ++ drop l.loan-index l.fn.lent
