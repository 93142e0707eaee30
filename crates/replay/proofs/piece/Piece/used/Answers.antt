use Rattle.std.proofs.Common.{sym}
use Rattle.replay.proofs.Pieces.{window}
use Rattle.replay.proofs.piece.Piece.used.Goals as goal

pub returns : goal.returns
returns c = rw (← c.self.view_is) (window c.self.inside.bytes.items c.self.inside.start c.self.inside.end c.args.n (rw (sym c.self.view_is) at c.requires))
