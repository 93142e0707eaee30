use Rattle.std.proofs.Common.{FitsSigned, refl, rules}
use Rattle.std.specs.Int.{w32}
use Rattle.wire_frames.specs.{frame_bytes}
use Rattle.proxy.proofs.Steered.{holds_by, taken_by}
use Rattle.proxy.proofs.pair.Pair.steer_reply.Goals as goal

pub returns-in-None-clause-taken : goal.returns-in-None-clause-taken
returns-in-None-clause-taken g c = λ message holds. absurd (c.in-None.ensures.all message (holds_by _ _ message c.far.ensures holds))

pub returns-in_err-show-clause-taken : goal.returns-in_err-show-clause-taken
returns-in_err-show-clause-taken g c = λ message holds.
    let fits : FitsSigned w32 c.header-header.result.response_to = search rules in
    taken_by (frame_bytes c.in-Some.frame) message c.header-header.result _ c.args.self.now.marks.marks.items _ fits refl (c.in-Some.ensures.all message (holds_by _ _ message c.far.ensures holds)) c.header-header.ensures
    c.take-flow.ensures.taken

pub returns-in_err-writeln-clause-taken : goal.returns-in_err-writeln-clause-taken
returns-in_err-writeln-clause-taken g c = λ message holds.
    let fits : FitsSigned w32 c.header-header.result.response_to = search rules in
    taken_by (frame_bytes c.in-Some.frame) message c.header-header.result _ c.args.self.now.marks.marks.items _ fits refl (c.in-Some.ensures.all message (holds_by _ _ message c.far.ensures holds)) c.header-header.ensures
    c.take-flow.ensures.taken

pub returns-clause-taken : goal.returns-clause-taken
returns-clause-taken g c = λ message holds.
    let fits : FitsSigned w32 c.header-header.result.response_to = search rules in
    taken_by (frame_bytes c.in-Some.frame) message c.header-header.result _ c.args.self.now.marks.marks.items _ fits refl (c.in-Some.ensures.all message (holds_by _ _ message c.far.ensures holds)) c.header-header.ensures
    c.take-flow.ensures.taken
