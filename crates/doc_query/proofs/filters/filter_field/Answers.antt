use Rattle.bson_raw.specs.{first_named}
use Rattle.doc_query.proofs.filters.filter_field.Goals as goal

pub returns-clause-refused : goal.returns-clause-refused
returns-clause-refused c = λ t s. c.filter_of.ensures.refused (first_named c.args.name.now t) (c.get.ensures t s)
