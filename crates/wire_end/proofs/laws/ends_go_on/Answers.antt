use Rattle.wire_end.proofs.Runs.{runs_on}
use Rattle.wire_end.proofs.laws.ends_go_on.Goals as goal

pub returns : goal.returns
returns g c = λ old mid new acts more r s.
    let L = g.L.Link in
    runs_on L.sent L.received old mid new acts more r s
