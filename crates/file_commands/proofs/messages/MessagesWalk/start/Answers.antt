use Rattle.std.proofs.Common.{ap, refl}
use Rattle.wire_stream.specs.{Reading}
use Rattle.file_commands.specs.MessageWalk.{message_walk}
use Rattle.file_commands.proofs.MessageReadings.{messages_kind}
use Rattle.file_commands.proofs.ItemReadings.{items_begun}
use Rattle.file_commands.proofs.messages.MessagesWalk.start.Goals as goal
use Rattle.wire_msg.specs.declared.header.TheConstants.{MAX_MESSAGE_LEN}

pub returns : goal.returns
returns c =
    let form = c.args.self.now.form in
    let new = c.new-messages.ensures in
    items_begun (message_walk form) (messages_kind form MAX_MESSAGE_LEN) (record { messages = c.new-messages.result; start = 0 }) (ap (λ (r : Reading). r.limit) new) (ap (λ (r : Reading). r.held) new) refl
