use Rattle.std.proofs.Common.{refl}
use Rattle.wire_frames.specs.{frame_bytes}
use Rattle.wire_text.specs.{IsFrameText}
use Rattle.proxy.specs.Shown.{IsShownText}
use Rattle.proxy.specs.Told.{start_text}
use Rattle.proxy.proofs.Showing.{word_then_one}
use Rattle.proxy.proofs.message.write_message.Goals as goal

pub returns : goal.returns
returns g c =
    let bytes = frame_bytes c.args.frame in
    word_then_one c.write_frame.result _ _ _ (start_text c.args.number c.args.direction) (IsFrameText 0 bytes) (IsShownText c.args.number c.args.direction bytes) (λ lines is. (lines, is, refl))
    c.in_ok-write_start.ensures c.write_frame.ensures
