use Rattle.wire_frames.proofs.RecordLaws.{fault_once, one_record, record_wants_once}
use Rattle.wire_frames.proofs.record_laws.one_front.Goals as goal

pub returns : goal.returns
returns c = record { whole = one_record; too_few = record_wants_once; bad = fault_once }
