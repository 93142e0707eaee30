use Rattle.std.proofs.Common.{◌≡◌, length, arith}
use Rattle.std.proofs.lemmas.Bool.Decides.{nat_tests}
use Rattle.wire_msg.proofs.RunLaws.{second_run}
use Rattle.wire_msg.proofs.sequence_iter.next_run.Goals as goal

pub returns-then-is_empty-clause-runs : goal.returns-then-is_empty-clause-runs
returns-then-is_empty-clause-runs c = λ qs r.
    let none : length c.args.bytes.now ≡ 0 = grind (arith, nat_tests) in
    second_run c.args.bytes.now c.args.then.now qs none r
