use Rattle.std.proofs.Common.{subst}
use Rattle.file_commands.specs.declared.or_records.Sort.{Sort}
use Rattle.file_commands.specs.OrRecordsWalk.{StandSorted}
use Rattle.file_commands.proofs.OrRecordsLemmas.{others_go_on, records_go_on}
use Rattle.file_commands.proofs.PieceLemmas.{where_ok}
use Rattle.file_commands.proofs.or_records.OrRecordsWalk.write_piece.Goals as goal

pub returns-in-Records : goal.returns-in-Records
returns-in-Records g c = λ read texts b.
    let t = g.E.Walk.tells c.args.self.now.others in
    let u = g.U.Walk.tells c.args.self.now.records in
    let old = c.args.reader.now in
    let s = subst (λ (x : Sort). StandSorted t u x old.others old.records read texts) c.in-Records.is b.stands in
    where_ok c.write_piece.result _ _
    (λ stop w. records_go_on t u old.sort old.others c.write_piece.new.reader read s.0 c.args.piece.now texts stop _ _ c.in-Records.is s.1 w)
    (c.write_piece.ensures s.0 texts s.2)

pub returns-in-Others : goal.returns-in-Others
returns-in-Others g c = λ read texts b.
    let t = g.E.Walk.tells c.args.self.now.others in
    let u = g.U.Walk.tells c.args.self.now.records in
    let old = c.args.reader.now in
    let s = subst (λ (x : Sort). StandSorted t u x old.others old.records read texts) c.in-Others.is b.stands in
    where_ok c.write_piece-in-Others.result _ _
    (λ stop w. others_go_on t u old.sort c.write_piece-in-Others.new.reader old.records read c.args.piece.now texts stop _ _ c.in-Others.is s.0 w)
    (c.write_piece-in-Others.ensures read texts s.1)
