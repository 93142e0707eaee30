use Rattle.std.proofs.Common.{Some, None}
use Rattle.doc_query.proofs.PathLaws.{first_cut}
use Rattle.doc_query.proofs.paths.first_step.Goals as goal

pub returns-in-Some-clause-first : goal.returns-in-Some-clause-first
returns-in-Some-clause-first c = (first_cut c.args.path.now (Some (c.in-Some.step, c.in-Some.rest)) c.in-Some.ensures.cases).0

pub returns-in-None-clause-first : goal.returns-in-None-clause-first
returns-in-None-clause-first c = first_cut c.args.path.now None c.in-None.ensures.cases
