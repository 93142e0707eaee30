use Rattle.std.proofs.Common.{◌≡◌, ◌≢◌, []}
use Rattle.file_commands.specs.MessageWalk.{message_walk}
use Rattle.file_commands.proofs.MessageReadings.{messages_kind}
use Rattle.file_commands.proofs.ItemReadings.{ends_between, ends_inside, is_empty, may_feed}
use Rattle.file_commands.proofs.messages.MessagesWalk.fault_at_end.Goals as goal
use Rattle.wire_msg.specs.declared.header.TheConstants.{MAX_MESSAGE_LEN}

pub returns-in-Ended : goal.returns-in-Ended
returns-in-Ended c = λ read texts b.
    let form = c.args.self.now.form in
    let r = c.args.reader.now in
    let kind = messages_kind form MAX_MESSAGE_LEN in
    let none : r.messages.held ≡ [] = is_empty r.messages.held (λ some. let e = c.end.ensures.inside (may_feed (message_walk form) kind r read texts b) some in cc) in
    ends_between (message_walk form) kind r read texts b none

pub returns-in-EndedInside : goal.returns-in-EndedInside
returns-in-EndedInside c = λ read texts b.
    let form = c.args.self.now.form in
    let some : c.args.reader.now.messages.held ≢ [] = λ none. let e = c.end.ensures.between none in cc in
    ends_inside (message_walk form) (messages_kind form MAX_MESSAGE_LEN) c.args.reader.now read texts b some
