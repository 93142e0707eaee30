use Rattle.wire_frames.proofs.FrameItems.{of_lacks}
use Rattle.wire_frames.proofs.reader.FrameReader.feed.Goals as goal

pub returns-clause-bad : goal.returns-clause-bad
returns-clause-bad c = λ l. c.feed.ensures.refused _ (of_lacks _ _ (rw (← c.self.view_is) at l))
