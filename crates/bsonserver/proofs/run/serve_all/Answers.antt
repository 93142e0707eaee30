use Rattle.bsonserver.proofs.run.serve_all.Goals as goal

pub returns : goal.returns
returns g c = c.serve_lent.ensures c.args.scripts.script.rules.items c.args.scripts.replies.rules.items c.begin.ensures
