use Rattle.script_rules.specs.{IsAnswered, IsStopped}
use Rattle.test_store.specs.{Answered, StopsAt}
use Rattle.bsonserver.specs.Runs.{socket_tells}
use Rattle.server_core.proofs.Lemmas.{on_any, serves_twice}
use Rattle.bsonserver.proofs.connections.take_steps.Goals as goal

pub returns-then-ne : goal.returns-then-ne
returns-then-ne g c =
    on_any c.after_turn.result
    (serves_twice (IsAnswered Answered) (IsStopped StopsAt) socket_tells (λ gated. gated.gate) _ _ _ _ _ _ c.loop.invariant c.in_ok-turned.ensures)

pub loop-preserved : goal.loop-preserved
loop-preserved g c =
    serves_twice (IsAnswered Answered) (IsStopped StopsAt) socket_tells (λ gated. gated.gate) _ _ _ _ _ _ c.loop.invariant c.in_ok-turned.ensures
