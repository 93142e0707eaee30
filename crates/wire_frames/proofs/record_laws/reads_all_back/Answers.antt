use Rattle.wire_frames.proofs.WrittenLaws.{messages_back, written_split}
use Rattle.wire_frames.proofs.record_laws.reads_all_back.Goals as goal

pub returns : goal.returns
returns c = record { records = written_split; messages = messages_back }
