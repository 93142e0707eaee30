use Rattle.std.proofs.Common.{FitsSigned, refl, rules}
use Rattle.std.specs.Int.{w32}
use Rattle.wire_frames.specs.{frame_bytes}
use Rattle.proxy.proofs.Steered.{holds_by, met_by}
use Rattle.proxy.proofs.pair.Pair.steer_request.Goals as goal

pub returns-in-None-clause-met : goal.returns-in-None-clause-met
returns-in-None-clause-met g c = λ message holds. absurd (c.in-None.ensures.all message (holds_by _ _ message c.near.ensures holds))

pub returns-clause-met : goal.returns-clause-met
returns-clause-met g c = λ message holds.
    let fits : FitsSigned w32 c.header-id.result.id = search rules in
    met_by c.meet_fate.result (frame_bytes c.in-Some.frame) message c.header-id.result _ c.in_ok-fate.fate _ _ _ _ _ _ fits refl (c.in-Some.ensures.all message (holds_by _ _ message c.near.ensures holds)) c.header-id.ensures
    c.in_ok-fate.ensures.ok c.meet_fate.ensures.comes c.meet_fate.ensures.marks c.meet_fate.ensures.delayed
