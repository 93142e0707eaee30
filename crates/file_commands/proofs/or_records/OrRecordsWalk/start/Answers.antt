use Rattle.file_commands.proofs.OrRecordsLemmas.{between_first}
use Rattle.file_commands.proofs.or_records.OrRecordsWalk.start.Goals as goal

pub returns : goal.returns
returns g c = between_first (g.E.Walk.tells c.args.self.now.others) (g.U.Walk.tells c.args.self.now.records) c.start.result c.start-2.result c.start.ensures c.start-2.ensures
