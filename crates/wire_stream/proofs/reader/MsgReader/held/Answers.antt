use Rattle.std.proofs.Common.{sym}
use Rattle.wire_stream.proofs.Readings.{header_len}
use Rattle.wire_stream.proofs.reader.MsgReader.held.Goals as goal

pub returns-in-None : goal.returns-in-None
returns-in-None c = rw (← c.self.view_is) (sym (header_len _ _ _ _ c.self.invariant.kept c.self.invariant.whole c.in-None.is))
