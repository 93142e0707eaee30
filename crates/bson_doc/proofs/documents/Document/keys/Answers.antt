use Rattle.std.proofs.Common.{ap, map, string_bytes, sym, ◌∙◌}
use Rattle.bson_doc.proofs.Owned.{names_seen}
use Rattle.bson_doc.proofs.documents.Document.keys.Goals as goal

pub returns : goal.returns
returns c = rw (← c.self.view_is) (ap (map string_bytes) c.as_slice.ensures.names ∙ sym (names_seen c.self.inside.names c.self.inside.values.items c.self.invariant))
