use Rattle.std.proofs.Common.{◌∙◌}
use Rattle.wire_query.proofs.DatabaseLaws.{db_found}
use Rattle.wire_query.proofs.database.names_database.Goals as goal

pub returns : goal.returns
returns c = λ t s. c.is_some.ensures ∙ db_found t c.get.result (c.get.ensures t s)
