use Rattle.file_commands.proofs.OrRecordsLemmas.{ends_others}
use Rattle.file_commands.proofs.or_records.OrRecordsWalk.fault_at_end.Goals as goal

pub returns-in_default : goal.returns-in_default
returns-in_default g c = λ read texts b.
    let old = c.args.reader.now in
    ends_others (g.E.Walk.tells c.args.self.now.others) (g.U.Walk.tells c.args.self.now.records) old.sort old.others old.records read texts _ c.in_default.not-Records b.stands
    (c.fault_at_end-in_default.ensures read texts)
