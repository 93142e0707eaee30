use Rattle.std.proofs.Common.{◌∙◌}
use Rattle.bson_json_read.proofs.HeldLemmas.{place_further}
use Rattle.bson_json_read.proofs.text_reader.TextReader.fault.Goals as goal

pub returns-clause-place : goal.returns-clause-place
returns-clause-place c =
    let i = c.self.inside in
    rw (← c.self.view_is) (
      c.args.offset,
      rw (← c.self.view_is) at c.requires,
      rw c.deref.ensures.value at c.behind.ensures ∙ place_further i.place.line i.place.column i.at c.args.offset i.bytes.items,
    )
