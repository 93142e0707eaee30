use Rattle.std.proofs.Common.{length, ap, sym, ◌∙◌}
use Rattle.std.proofs.lemmas.List.{nil_from_length}
use Rattle.file_commands.specs.FrameWalk.{any_walk}
use Rattle.file_commands.proofs.FrameReadings.{frames_kind}
use Rattle.file_commands.proofs.ItemReadings.{ends_between, ends_inside}
use Rattle.file_commands.proofs.frames.FramesWalk.fault_at_end.Goals as goal
use Rattle.wire_msg.specs.declared.header.TheConstants.{MAX_MESSAGE_LEN}

pub returns-then-held-eq0 : goal.returns-then-held-eq0
returns-then-held-eq0 c = λ read texts b.
    ends_between any_walk (frames_kind MAX_MESSAGE_LEN) c.args.reader.now read texts b (nil_from_length c.args.reader.now.frames.held (sym c.held.ensures ∙ c.if-held-eq0.true))

pub returns : goal.returns
returns c = λ read texts b. ends_inside any_walk (frames_kind MAX_MESSAGE_LEN) c.args.reader.now read texts b (λ none. c.if-held-eq0.false (c.held.ensures ∙ ap length none))
