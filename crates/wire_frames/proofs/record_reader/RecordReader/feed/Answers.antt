use Rattle.wire_frames.proofs.RecordItems.{of_fault, of_record, of_wants}
use Rattle.wire_frames.proofs.record_reader.RecordReader.feed.Goals as goal

pub returns-clause-wanted : goal.returns-clause-wanted
returns-clause-wanted c = λ more o. c.feed.ensures.wanted more (of_wants _ _ more (rw (← c.self.view_is) at o))

pub returns-clause-whole : goal.returns-clause-whole
returns-clause-whole c = λ r. c.feed.ensures.whole (of_record _ _ (rw (← c.self.view_is) at r))

pub returns-clause-bad : goal.returns-clause-bad
returns-clause-bad c = λ f b. c.feed.ensures.refused f (of_fault _ _ f (rw (← c.self.view_is) at b))
