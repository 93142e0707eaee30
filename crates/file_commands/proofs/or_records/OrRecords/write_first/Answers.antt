use Rattle.std.proofs.Common.{[], subst}
use Rattle.file_commands.specs.declared.or_records.Sort.{Sort}
use Rattle.file_commands.specs.OrRecordsWalk.{StandSorted}
use Rattle.file_commands.proofs.OrRecordsLemmas.{none_yet, others_begin, records_begin}
use Rattle.file_commands.proofs.PieceLemmas.{where_ok}
use Rattle.file_commands.proofs.or_records.OrRecords.write_first.Goals as goal

pub returns-in-Records : goal.returns-in-Records
returns-in-Records g c = λ read texts b.
    let t = g.E.Walk.tells c.args.self.now.others in
    let u = g.U.Walk.tells c.args.self.now.records in
    let old = c.args.reader.now in
    let n = c.args.matched in
    let s = subst (λ (x : Sort). StandSorted t u x old.others old.records read texts) c.requires.sort b.stands in
    let none = none_yet t u c.args.self.now.waits n old.others read texts s.0 s.1 s.2 in
    where_ok c.write_piece.result _ _
    (λ stop w. records_begin t u c.sort_of-sort.result.0 n old.others c.write_piece.new.reader read c.args.piece.now c.sort_of-sort.result.1.now texts stop _ _ c.in-Records.is s.1 none c.sort_of-sort.ensures w)
    (c.write_piece.ensures [] [] s.3)

pub returns-in_default : goal.returns-in_default
returns-in_default g c = λ read texts b.
    let t = g.E.Walk.tells c.args.self.now.others in
    let u = g.U.Walk.tells c.args.self.now.records in
    let old = c.args.reader.now in
    let n = c.args.matched in
    let s = subst (λ (x : Sort). StandSorted t u x old.others old.records read texts) c.requires.sort b.stands in
    where_ok c.write_piece-in_default.result _ _
    (λ stop w. others_begin t u c.sort_of-sort.result.0 n c.write_piece-in_default.new.reader old.records read c.args.piece.now c.sort_of-sort.result.1.now texts stop _ _
    c.args.self.now.waits c.in_default.not-Records s.1 s.3 c.sort_of-sort.ensures w)
    (c.write_piece-in_default.ensures read texts s.2)
