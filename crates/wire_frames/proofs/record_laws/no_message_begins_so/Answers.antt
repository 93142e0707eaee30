use Rattle.wire_frames.proofs.WrittenLaws.{no_message_begins_so}
use Rattle.wire_frames.proofs.record_laws.no_message_begins_so.Goals as goal

pub returns : goal.returns
returns c = no_message_begins_so
