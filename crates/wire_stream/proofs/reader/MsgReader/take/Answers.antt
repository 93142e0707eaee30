use Rattle.std.proofs.Common.{sym, ◌∙◌}
use Rattle.wire_stream.proofs.Readings.{header_no_message, not_ready, nothing_held, ready_is}
use Rattle.wire_stream.proofs.reader.MsgReader.take.Goals as goal

pub returns-in_default-clause-ready : goal.returns-in_default-clause-ready
returns-in_default-clause-ready c = λ m. absurd (not_ready _ _ _ c.self.invariant.state c.in_default.not-Ready (rw (← c.self.view_is) at m))

pub unreachable-requires : goal.unreachable-requires
unreachable-requires c = header_no_message _ _ _ _ c.self.invariant.kept c.self.invariant.whole (sym c.take.ensures.value ∙ c.in_default-take.is) (ready_is _ _ _ c.self.invariant.state c.in-Ready.is)

pub invariant_of-self : goal.invariant_of-self
invariant_of-self c =
    let n = nothing_held c.self.inside.limit c.self.inside.header c.take.new.self c.take.ensures.after in
    record { limit = c.self.invariant.limit; whole = c.self.invariant.whole; state = n.0; kept = n.1 }
