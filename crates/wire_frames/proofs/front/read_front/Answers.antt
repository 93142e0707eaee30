use Rattle.std.proofs.Common.{List, ℕ, subst, sym}
use Rattle.wire_frames.specs.Frames.{IsWholeFrame}
use Rattle.wire_frames.proofs.FrameItems.{to_frame, to_lacks, to_wants, to_whole}
use Rattle.wire_frames.proofs.front.read_front.Goals as goal

pub from_framed-requires : goal.from_framed-requires
from_framed-requires c = (to_frame _ _ c.in-Whole.ensures.first.is).framed

pub returns-in-Whole : goal.returns-in-Whole
returns-in-Whole c = subst (λ (x : List ℕ). IsWholeFrame c.args.limit c.args.bytes.now x c.in-Whole.rest.now) (sym c.from_framed.ensures) (to_whole _ _ _ _ c.in-Whole.ensures.first)

pub returns-in-Open : goal.returns-in-Open
returns-in-Open c = to_wants _ _ _ c.in-Open.ensures.first

pub returns-in-Bad : goal.returns-in-Bad
returns-in-Bad c = to_lacks _ _ _ c.in-Bad.ensures.first
