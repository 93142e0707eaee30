use Rattle.std.specs.Prelude.{codes}
use Rattle.bson_raw.specs.{first_named}
use Rattle.doc_stages.proofs.sorting.sort_field.Goals as goal

pub returns-clause-refused : goal.returns-clause-refused
returns-clause-refused c = λ t s. c.keys_of.ensures.refused (first_named (codes "sort") t) (c.get.ensures t s)
