use Rattle.file_commands.specs.RecordWalk.{record_walk}
use Rattle.file_commands.proofs.RecordReadings.{records_kind}
use Rattle.file_commands.proofs.ItemReadings.{may_feed, items_walk}
use Rattle.file_commands.proofs.PieceLemmas.{where_ok}
use Rattle.file_commands.proofs.records.RecordsWalk.write_piece.Goals as goal
use Rattle.wire_msg.specs.declared.header.TheConstants.{MAX_MESSAGE_LEN}

pub write_each-requires : goal.write_each-requires
write_each-requires g c =
    let form = c.args.self.now.form in
    may_feed (record_walk form) (records_kind form MAX_MESSAGE_LEN) c.args.reader.now c.requires.0 c.requires.1 c.requires.2

pub returns : goal.returns
returns g c = λ read texts b.
    let form = c.args.self.now.form in
    where_ok c.write_each.result _ _ (λ stop w. items_walk (record_walk form) (records_kind form MAX_MESSAGE_LEN) c.args.reader.now c.write_each.new.reader c.args.piece.now stop _ _ read texts b w) c.write_each.ensures
