-- What is written for the messages of any opCode in an input, piece by piece.
use Rattle.file_commands.specs.declared.frames.AnyReader.{AnyReader}
use Rattle.file_commands.specs.Any.{frames_of}
use Rattle.file_commands.specs.Output.{nothing}
use Rattle.file_commands.specs.ItemWalk.{ItemReading, ItemWalk, item_tells}
use Rattle.file_commands.specs.Walk.{Tells}
use Rattle.wire_msg.specs.declared.header.TheConstants.{MAX_MESSAGE_LEN}

-- where a reader of frames stands
abbrev pub any_reading : AnyReader → ItemReading
any_reading r = record { limit = r.frames.limit; held = r.frames.held; start = r.start }

-- how they are gone over
abbrev pub any_walk : ItemWalk AnyReader
any_walk = record {
  reading = any_reading;
  kind = frames_of;
  limit = MAX_MESSAGE_LEN;
  base = 0;
  closing = nothing;
}

-- what is told of messages of any opCode
abbrev pub any_tells : Tells AnyReader
any_tells = item_tells any_walk
