use Rattle.std.proofs.Common.{ap, refl}
use Rattle.wire_frames.specs.{FrameReading, frame_bytes}
use Rattle.proxy.specs.Watching.{open_front, whole_front}
use Rattle.proxy.proofs.watch.Watch.give_front.Goals as goal

pub returns-in-Open-clause-given : goal.returns-in-Open-clause-given
returns-in-Open-clause-given g c = open_front refl _ c.in-Open.ensures refl refl refl

pub returns-in_ok-put-in-Whole-clause-given : goal.returns-in_ok-put-in-Whole-clause-given
returns-in_ok-put-in-Whole-clause-given g c =
    whole_front refl (frame_bytes c.in-Whole.frame) _ c.in-Whole.ensures (ap (λ (r : FrameReading). r.held) c.release.ensures) refl c.in_ok-put-in-Whole.ensures.recorded
