use Rattle.std.proofs.Common.{◌≡◌, ◌≢◌, [], Some, subst, sym}
use Rattle.bson_elem.specs.declared.fault.BsonCause.TheVariants.{Truncated}
use Rattle.bson_elem.specs.declared.fault.BsonFault.{BsonFault}
use Rattle.bson_elem.specs.{fault}
use Rattle.file_commands.specs.declared.input_fault.InputFault.TheVariants.{Bson}
use Rattle.file_commands.specs.DocumentWalk.{document_walk}
use Rattle.file_commands.specs.InputFault.{input_fault_line}
use Rattle.file_commands.specs.ItemWalk.{EndAt}
use Rattle.file_commands.proofs.DocumentReadings.{documents_kind}
use Rattle.file_commands.proofs.ItemReadings.{ends_between, ends_inside, is_empty}
use Rattle.file_commands.proofs.documents.DocumentsWalk.fault_at_end.Goals as goal

pub returns-in-Ok : goal.returns-in-Ok
returns-in-Ok g c = λ read texts b.
    let rule = g.E.EachDocument.rule c.args.self.now.each in
    let r = c.args.reader.now in
    let none : r.held ≡ [] = is_empty r.held (λ some. let e = c.in-Ok.ensures.inside b.stands.1 some in cc) in
    ends_between (document_walk rule (g.E.EachDocument.closing c.args.self.now.each)) (documents_kind rule) r read texts b none

pub returns-in-Err : goal.returns-in-Err
returns-in-Err g c = λ read texts b.
    let rule = g.E.EachDocument.rule c.args.self.now.each in
    let walk = document_walk rule (g.E.EachDocument.closing c.args.self.now.each) in
    let r = c.args.reader.now in
    let some : r.held ≢ [] = λ none. let e = c.in-Err.ensures.between none in cc in
    let told : c.in-Err.fault ≡ fault r.start Truncated = let e = c.in-Err.ensures.inside b.stands.1 some in cc in
    subst (λ (f : BsonFault). EndAt walk r read texts (Some (input_fault_line (Bson f)))) (sym told) (ends_inside walk (documents_kind rule) r read texts b some)
