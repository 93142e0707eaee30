-- What is written for the messages of an input, piece by piece.
use Rattle.file_commands.specs.declared.messages.MessageReader.{MessageReader}
use Rattle.file_commands.specs.declared.msg.MessageForm.{MessageForm}
use Rattle.file_commands.specs.Msg.{messages_of}
use Rattle.file_commands.specs.Output.{nothing}
use Rattle.file_commands.specs.ItemWalk.{ItemReading, ItemWalk, item_tells}
use Rattle.file_commands.specs.Walk.{Tells}
use Rattle.wire_msg.specs.declared.header.TheConstants.{MAX_MESSAGE_LEN}

-- where a reader of messages stands
abbrev pub message_reading : MessageReader → ItemReading
message_reading r = record { limit = r.messages.limit; held = r.messages.held; start = r.start }

-- how they are gone over, which are written in this form
abbrev pub message_walk : MessageForm → ItemWalk MessageReader
message_walk form = record {
  reading = message_reading;
  kind = messages_of form;
  limit = MAX_MESSAGE_LEN;
  base = 0;
  closing = nothing;
}

-- what is told of messages that are written in this form
abbrev pub message_tells : MessageForm → Tells MessageReader
message_tells form = item_tells (message_walk form)
