use Rattle.bson_doc.proofs.Owned.{set_distinct}
use Rattle.bson_doc.proofs.documents.Document.iter.Goals as goal

pub returns-clause-distinct : goal.returns-clause-distinct
returns-clause-distinct c = rw (← c.self.view_is) (set_distinct c.self.inside.names c.self.inside.values.items c.self.invariant c.as_slice.ensures.distinct)
