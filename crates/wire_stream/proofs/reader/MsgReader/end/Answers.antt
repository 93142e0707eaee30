use Rattle.wire_stream.proofs.Readings.{need_no_message, need_not_bad, not_need}
use Rattle.wire_stream.proofs.reader.MsgReader.end.Goals as goal

pub returns-in_default-clause-inside : goal.returns-in_default-clause-inside
returns-in_default-clause-inside c = λ o some. absurd (not_need _ _ _ c.self.invariant.state c.in_default.not-Need (rw (← c.self.view_is) at o))

pub returns-else-held-eq0-clause-ready : goal.returns-else-held-eq0-clause-ready
returns-else-held-eq0-clause-ready c = λ m. absurd (need_no_message _ _ _ c.self.invariant.state c.in-Need.is (rw (← c.self.view_is) at m))

pub returns-else-held-eq0-clause-bad : goal.returns-else-held-eq0-clause-bad
returns-else-held-eq0-clause-bad c = λ f b. absurd (need_not_bad _ _ _ f c.self.invariant.state c.in-Need.is (rw (← c.self.view_is) at b))
