use Rattle.wire_frames.proofs.RecordLaws.{told_all}
use Rattle.wire_frames.proofs.record.RawRecord.front.Goals as goal

pub returns-clause-whole : goal.returns-clause-whole
returns-clause-whole c = (told_all c.args.limit c.args.bytes.now c.read_front.result c.read_front.ensures).whole

pub returns-clause-too_few : goal.returns-clause-too_few
returns-clause-too_few c = (told_all c.args.limit c.args.bytes.now c.read_front.result c.read_front.ensures).too_few

pub returns-clause-bad : goal.returns-clause-bad
returns-clause-bad c = (told_all c.args.limit c.args.bytes.now c.read_front.result c.read_front.ensures).bad
