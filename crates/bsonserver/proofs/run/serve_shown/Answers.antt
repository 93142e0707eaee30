use Rattle.std.proofs.Common.{sym, subst}
use Rattle.std.specs.Prelude.{OnOk}
use Rattle.bsonserver.specs.Runs.{ShowsServing}
use Rattle.bsonserver.proofs.run.serve_shown.Goals as goal

pub returns-then-choice-clause-served : goal.returns-then-choice-clause-served
returns-then-choice-clause-served g c =
    subst (λ q. OnOk c.serve_quietly.result (ShowsServing q c.args.serving.now c.serve_quietly.new.serving (g.W.Write.contents c.args.out.now) (g.W.Write.contents c.args.out.now)))
    (sym c.if-choice.true) (c.serve_quietly.ensures.served (g.W.Write.contents c.args.out.now))

pub returns-else-choice-clause-served : goal.returns-else-choice-clause-served
returns-else-choice-clause-served g c =
    subst (λ q. OnOk c.serve_until.result (ShowsServing q c.args.serving.now c.serve_until.new.serving (g.W.Write.contents c.args.out.now) (g.W.Write.contents c.serve_until.new.out)))
    (sym c.if-choice.false) c.serve_until.ensures.served
