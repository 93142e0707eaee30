use Rattle.std.proofs.Common.{ℕ, ap}
use Rattle.std.specs.Prelude.{nat_lt}
use Rattle.file_commands.specs.DocumentWalk.{document_walk}
use Rattle.file_commands.proofs.DocumentReadings.{documents_kind}
use Rattle.file_commands.proofs.ItemReadings.{closing_told}
use Rattle.file_commands.proofs.documents.DocumentsWalk.write_closing.Goals as goal

pub returns : goal.returns
returns g c = λ bytes texts last e.
    let rule = g.E.EachDocument.rule c.args.self.now.each in
    closing_told (document_walk rule (g.E.EachDocument.closing c.args.self.now.each)) (documents_kind rule) c.write_closing.result _ _ c.args.reader.now _ bytes texts last e
    (ap (λ (n : ℕ). g.E.EachDocument.closing c.args.self.now.each (nat_lt 0 n)) c.start-any.ensures) c.write_closing.ensures
