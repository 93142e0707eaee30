use Rattle.bson_raw.specs.{first_named}
use Rattle.std.specs.Prelude.{codes}
use Rattle.doc_stages.proofs.projection.projection_field.Goals as goal

pub returns-clause-refused : goal.returns-clause-refused
returns-clause-refused c = λ t s. c.projection_of.ensures.refused (first_named (codes "projection") t) (c.get.ensures t s)
