use Rattle.std.proofs.Common.{List, ℕ, ◌++◌, ◌<◌, ◌^◌, ap, ◌∙◌, arith}
use Rattle.bson_elem.specs.Spelling.{document, elements}
use Rattle.bson_doc.specs.Plain.{plain}
use Rattle.bson_doc.proofs.Spelled.{spells_plain}
use Rattle.bson_doc.proofs.canon.written_bytes.Goals as goal

pub returns : goal.returns
returns c = λ t spelled.
    let counted : c.args.limit < 2 ^ 31 = omega (arith, c.requires) in
    spells_plain t c.args.document.bytes.now c.write_document.new.out.items c.args.limit counted spelled
    (c.in_ok-write_document.ensures.added t spelled ∙ ap (λ (x : List ℕ). x ++ document (elements (plain t))) c.in-Ok.ensures.items)
    (c.in_ok-write_document.ensures.within t spelled)
