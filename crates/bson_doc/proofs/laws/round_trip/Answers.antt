use Rattle.std.proofs.Common.{List, ℕ, sym, subst}
use Rattle.bson_elem.specs.Spelling.{Spells}
use Rattle.bson_raw.specs.RawDocument.{document_bytes}
use Rattle.bson_doc.specs.Document.{tree_of}
use Rattle.bson_doc.proofs.Appending.{only_memory}
use Rattle.bson_doc.proofs.laws.round_trip.Goals as goal

pub returns-clause-refused : goal.returns-clause-refused
returns-clause-refused c =
    let t = tree_of c.args.document.now in
    let spelled = subst (λ (x : List ℕ). Spells t x) (sym c.as_raw.ensures) c.in_ok-raw.ensures.written in
    only_memory c.from_raw.result _ t (document_bytes c.as_raw.result) spelled (c.from_raw.ensures.back c.args.document.now spelled c.in_ok-raw.ensures.canonical c.in_ok-raw.ensures.unique)
