use Rattle.std.proofs.Common.{sym, ◌∙◌}
use Rattle.bson_doc.proofs.Pairs.{length-seen}
use Rattle.bson_doc.proofs.documents.Document.len.Goals as goal

pub returns : goal.returns
returns c = rw (← c.self.view_is) (c.len.ensures ∙ c.self.inside.values.ok.0 ∙ sym (length-seen c.self.inside.names c.self.inside.values.items c.self.invariant))
