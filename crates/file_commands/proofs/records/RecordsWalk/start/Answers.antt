use Rattle.std.proofs.Common.{ap, refl}
use Rattle.wire_frames.specs.{RecordReading}
use Rattle.file_commands.specs.RecordWalk.{record_walk}
use Rattle.file_commands.proofs.RecordReadings.{records_kind}
use Rattle.file_commands.proofs.ItemReadings.{items_begun}
use Rattle.file_commands.proofs.records.RecordsWalk.start.Goals as goal
use Rattle.wire_msg.specs.declared.header.TheConstants.{MAX_MESSAGE_LEN}

pub returns : goal.returns
returns c =
    let form = c.args.self.now.form in
    let new = c.new-records.ensures in
    items_begun (record_walk form) (records_kind form MAX_MESSAGE_LEN) (record { alloc = c.args.alloc; records = c.new-records.result; start = 8 }) (ap (λ (r : RecordReading). r.limit) new) (ap (λ (r : RecordReading). r.held) new) refl
