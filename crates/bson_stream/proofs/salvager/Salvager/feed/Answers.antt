use Rattle.std.proofs.Common.{arith}
use Rattle.std.proofs.lemmas.Grind.{common_steps}
use Rattle.bson_stream.proofs.Salvagings.{fed_then}
use Rattle.bson_stream.proofs.salvager.Salvager.feed.Goals as goal

pub returns-clause-fed : goal.returns-clause-fed
returns-clause-fed c = λ fed told so. fed_then c.args.piece.now c.args.self.now _ (grind (arith, common_steps)) fed told so
