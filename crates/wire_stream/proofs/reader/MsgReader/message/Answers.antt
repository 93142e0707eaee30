use Rattle.wire_stream.proofs.Readings.{header_no_message, not_ready}
use Rattle.wire_stream.proofs.reader.MsgReader.message.Goals as goal

pub returns-in_default-clause-ready : goal.returns-in_default-clause-ready
returns-in_default-clause-ready c = λ m. absurd (not_ready _ _ _ c.self.invariant.state c.in_default.not-Ready (rw (← c.self.view_is) at m))

pub returns-in-None-clause-ready : goal.returns-in-None-clause-ready
returns-in-None-clause-ready c = λ m. absurd (header_no_message _ _ _ _ c.self.invariant.kept c.self.invariant.whole c.in-None.is (rw (← c.self.view_is) at m))
