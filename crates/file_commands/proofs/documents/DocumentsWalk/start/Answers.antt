use Rattle.std.proofs.Common.{ap}
use Rattle.bson_stream.specs.{Reading}
use Rattle.file_commands.specs.DocumentWalk.{document_walk}
use Rattle.file_commands.proofs.DocumentReadings.{documents_kind}
use Rattle.file_commands.proofs.ItemReadings.{items_begun}
use Rattle.file_commands.proofs.documents.DocumentsWalk.start.Goals as goal

pub returns : goal.returns
returns g c =
    let rule = g.E.EachDocument.rule c.args.self.now.each in
    let new = c.new.ensures in
    items_begun (document_walk rule (g.E.EachDocument.closing c.args.self.now.each)) (documents_kind rule) c.new.result (ap (λ (r : Reading). r.limit) new) (ap (λ (r : Reading). r.held) new) (ap (λ (r : Reading). r.start) new)
