use Rattle.std.proofs.lemmas.Result.{on_ok_weaker}
use Rattle.client_examples.proofs.pair.report.Goals as goal

pub returns : goal.returns
returns g c =
    on_ok_weaker c.write_run.result (λ written. (c.in_ok-ends.ends, c.in_ok-ends.ensures, written)) c.write_run.ensures
