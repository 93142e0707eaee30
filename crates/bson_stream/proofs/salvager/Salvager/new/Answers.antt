use Rattle.bson_stream.proofs.Salvagings.{fresh, fresh_settled}
use Rattle.bson_stream.proofs.salvager.Salvager.new.Goals as goal

pub returns-clause-fresh : goal.returns-clause-fresh
returns-clause-fresh c = rw c.new.ensures.items (fresh c.args.limit 0)

pub returns-clause-settled : goal.returns-clause-settled
returns-clause-settled c = fresh_settled c.args.limit 0
