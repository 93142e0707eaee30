use Rattle.std.proofs.Common.{arith}
use Rattle.bson_elem.specs.Checks.{opens}
use Rattle.bson_elem.specs.Documents.{elements_of}
use Rattle.bson_elem.specs.Trees.{no_code}
use Rattle.byte_views.proofs.QuickLaws.{document_read, with_document}
use Rattle.byte_views.proofs.quick.document.Goals as goal

pub returns-in-Ok : goal.returns-in-Ok
returns-in-Ok c =
    let body = elements_of c.in-Ok.document.now in
    let read = document_read c.args.depth c.args.at c.args.from c.args.rest.now body c.in-Ok.field-0-1.now (omega (arith, c.if-depth-ge-MAX_DEPTH.false)) c.in-Ok.ensures.read in
    let place = with_document c.args.bare c.args.from c.in-Ok.document.now _ c.requires c.in-Ok.ensures.lent c.new-bytes.ensures in (
      record { value = opens c.args.from no_code body; after = c.in-Ok.field-0-1.now; read = read; size = c.in-Ok.ensures.parts.1; place = place },
      record { value = opens c.args.from no_code body; after = c.in-Ok.field-0-1.now; read = read; size = c.in-Ok.ensures.parts.1; place = place },
    )
