use Rattle.file_commands.specs.DocumentWalk.{document_walk}
use Rattle.file_commands.proofs.DocumentReadings.{documents_kind}
use Rattle.file_commands.proofs.ItemReadings.{items_walk}
use Rattle.file_commands.proofs.PieceLemmas.{where_ok}
use Rattle.file_commands.proofs.documents.DocumentsWalk.write_piece.Goals as goal

pub returns : goal.returns
returns g c = λ read texts b.
    let rule = g.E.EachDocument.rule c.args.self.now.each in
    where_ok c.write_each.result _ _
    (λ stop w. items_walk (document_walk rule (g.E.EachDocument.closing c.args.self.now.each)) (documents_kind rule) c.args.reader.now c.write_each.new.documents c.args.piece.now stop _ _ read texts b w) c.write_each.ensures
