use Rattle.bsonserver.proofs.Shows.{quiet_shows}
use Rattle.bsonserver.proofs.run.serve_quietly.Goals as goal

pub returns-clause-served : goal.returns-clause-served
returns-clause-served g c = λ a. quiet_shows c.serve_until.result c.args.serving.now c.serve_until.new.serving a c.serve_until.ensures.served
