use Rattle.wire_frames.proofs.RecordItems.{lead_fails, lead_passes}
use Rattle.wire_frames.proofs.records.WireRecordsFraming.check_lead.Goals as goal

pub returns-in-Ok : goal.returns-in-Ok
returns-in-Ok c = lead_passes _ _ c.in-Some.ensures.cases.0 c.requires c.in-Ok.ensures.0

pub returns-in-Err : goal.returns-in-Err
returns-in-Err c = lead_fails _ _ _ c.in-Some.ensures.cases.0 c.requires c.in-Err.ensures
