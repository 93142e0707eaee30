use Rattle.file_commands.proofs.PieceLemmas.{none_first}
use Rattle.file_commands.proofs.pieces.run_walk.Goals as goal

pub returns-in-Err-clause-memory : goal.returns-in-Err-clause-memory
returns-in-Err-clause-memory g c = λ is.
    none_first (g.E.Walk.tells c.args.each.now) c.start-begun.result c.args.hex (g.R.Read.remaining c.args.reader.now) (g.W.Write.contents c.args.writer.now) c.start-begun.ensures
