use Rattle.std.proofs.Common.{sym}
use Rattle.wire_stream.proofs.KnownBytes.{window}
use Rattle.wire_stream.proofs.inlet.Inlet.used.Goals as goal

pub returns : goal.returns
returns c = rw (← c.self.view_is) (window c.self.inside.piece.items c.self.inside.start c.self.inside.end c.args.n (rw (sym c.self.view_is) at c.requires))
