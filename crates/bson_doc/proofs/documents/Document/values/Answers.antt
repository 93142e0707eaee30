use Rattle.std.proofs.Common.{ap, map, sym, ◌∙◌}
use Rattle.bson_doc.specs.Bson.{value_of}
use Rattle.bson_doc.proofs.Owned.{values_seen}
use Rattle.bson_doc.proofs.documents.Document.values.Goals as goal

pub returns : goal.returns
returns c = rw (← c.self.view_is) (ap (map value_of) c.deref.ensures.value ∙ sym (values_seen c.self.inside.names c.self.inside.values.items c.self.invariant))
