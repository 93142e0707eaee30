use Rattle.std.proofs.Common.{length, ap, sym, ◌∙◌}
use Rattle.std.proofs.lemmas.List.{nil_from_length}
use Rattle.file_commands.specs.RecordWalk.{record_walk}
use Rattle.file_commands.proofs.ItemReadings.{ends_between, ends_inside}
use Rattle.file_commands.proofs.RecordReadings.{records_kind}
use Rattle.file_commands.proofs.records.RecordsWalk.fault_at_end.Goals as goal
use Rattle.wire_msg.specs.declared.header.TheConstants.{MAX_MESSAGE_LEN}

pub returns-then-held-eq0 : goal.returns-then-held-eq0
returns-then-held-eq0 c = λ read texts b.
    let form = c.args.self.now.form in
    ends_between (record_walk form) (records_kind form MAX_MESSAGE_LEN) c.args.reader.now read texts b (nil_from_length c.args.reader.now.records.held (sym c.held.ensures ∙ c.if-held-eq0.true))

pub returns : goal.returns
returns c = λ read texts b.
    let form = c.args.self.now.form in
    ends_inside (record_walk form) (records_kind form MAX_MESSAGE_LEN) c.args.reader.now read texts b (λ none. c.if-held-eq0.false (c.held.ensures ∙ ap length none))
