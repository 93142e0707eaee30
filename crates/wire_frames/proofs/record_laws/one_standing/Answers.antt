use Rattle.wire_frames.proofs.RecordLaws.{faulty_not_whole, wants_no_record, wants_not_faulty}
use Rattle.wire_frames.proofs.record_laws.one_standing.Goals as goal

pub returns : goal.returns
returns c = record { open_or_whole = wants_no_record; open_or_bad = wants_not_faulty; bad_or_whole = faulty_not_whole }
