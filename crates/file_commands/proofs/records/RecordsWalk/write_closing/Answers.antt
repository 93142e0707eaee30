use Rattle.std.proofs.Common.{◌∙◌}
use Rattle.file_commands.specs.RecordWalk.{record_walk}
use Rattle.file_commands.proofs.ItemReadings.{closing_told}
use Rattle.file_commands.proofs.RecordReadings.{records_kind}
use Rattle.file_commands.proofs.records.RecordsWalk.write_closing.Goals as goal
use Rattle.wire_msg.specs.declared.header.TheConstants.{MAX_MESSAGE_LEN}

pub returns : goal.returns
returns g c = λ bytes texts last e.
    let form = c.args.self.now.form in
    closing_told (record_walk form) (records_kind form MAX_MESSAGE_LEN) c.write_all.result _ _ c.args.reader.now _ bytes texts last e (c.as_bytes.ensures.value ∙ c.record_closing.ensures) c.write_all.ensures.bytes
