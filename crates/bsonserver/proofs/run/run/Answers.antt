use Rattle.bsonserver.proofs.Shows.{refused_ends, run_ends}
use Rattle.bsonserver.proofs.run.run.Goals as goal

pub returns-in-Ok : goal.returns-in-Ok
returns-in-Ok g c = run_ends c.args.choice c.in-Ok.scripts.script.rules.items c.in-Ok.scripts.replies.rules.items c.serve_at.result _ _ c.in-Ok.ensures.read c.serve_at.ensures

pub returns-in-Err : goal.returns-in-Err
returns-in-Err g c = refused_ends c.args.choice c.in-Err.end _ c.in-Err.ensures.refused
