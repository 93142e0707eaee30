use Rattle.script_rules.specs.{IsAnswered, IsStopped}
use Rattle.test_store.specs.{Answered, StopsAt}
use Rattle.bsonserver.specs.Runs.{socket_tells}
use Rattle.server_core.proofs.Lemmas.{serves_none, serves_twice}
use Rattle.bsonserver.proofs.connections.serve_some.Goals as goal

pub returns : goal.returns
returns g c =
    let does = IsAnswered Answered in let stops = IsStopped StopsAt in
    let flushed = serves_none does stops socket_tells (λ gated. gated.gate) c.args.serving.now (g.W.Write.contents c.args.out.now) (g.W.Write.contents c.flush.new.self) c.flush.ensures.bytes in
    serves_twice does stops socket_tells (λ gated. gated.gate) _ _ _ _ _ _ (serves_twice does stops socket_tells (λ gated. gated.gate) _ _ _ _ _ _ (serves_twice does stops socket_tells (λ gated. gated.gate) _ _ _ _ _ _ flushed c.in_ok-take_up_turns.ensures) c.in_ok-take_turns.ensures) c.in_ok-accept_some.ensures
