use Rattle.std.proofs.Common.{ap, refl}
use Rattle.wire_frames.specs.{FrameReading}
use Rattle.file_commands.specs.FrameWalk.{any_walk}
use Rattle.file_commands.proofs.FrameReadings.{frames_kind}
use Rattle.file_commands.proofs.ItemReadings.{items_begun}
use Rattle.file_commands.proofs.frames.FramesWalk.start.Goals as goal
use Rattle.wire_msg.specs.declared.header.TheConstants.{MAX_MESSAGE_LEN}

pub returns : goal.returns
returns c =
    let new = c.new-frames.ensures in
    items_begun any_walk (frames_kind MAX_MESSAGE_LEN) (record { alloc = c.args.alloc; frames = c.new-frames.result; start = 0 }) (ap (λ (r : FrameReading). r.limit) new) (ap (λ (r : FrameReading). r.held) new) refl
