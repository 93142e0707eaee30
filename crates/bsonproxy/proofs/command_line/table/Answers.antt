use Rattle.bsonproxy.proofs.ParseLemmas.{of_table}
use Rattle.bsonproxy.proofs.command_line.table.Goals as goal

pub returns-clause-choices : goal.returns-clause-choices
returns-clause-choices c = λ name rows is. of_table name rows is
