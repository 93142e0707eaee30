use Rattle.std.proofs.Common.{rules}
use Rattle.std.proofs.lemmas.List.Edits.{map_over_more}
use Rattle.wire_pool.specs.Loans.{cleared}
use Rattle.wire_pool.proofs.loans.clear_all.Goals as goal

pub loop-loan-preserved : goal.loop-loan-preserved
loop-loan-preserved c = search (rules, map_over_more cleared)
