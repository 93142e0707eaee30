-- What is written for the records of a file, piece by piece, behind its signature.
use Rattle.file_commands.specs.declared.record_text.RecordForm.{RecordForm}
use Rattle.file_commands.specs.declared.records.FileReader.{FileReader}
use Rattle.file_commands.specs.ItemWalk.{ItemReading, ItemWalk, item_tells}
use Rattle.file_commands.specs.RecordText.{record_closing}
use Rattle.file_commands.specs.Records.{records_of}
use Rattle.file_commands.specs.Walk.{Tells}
use Rattle.wire_msg.specs.declared.header.TheConstants.{MAX_MESSAGE_LEN}

-- where a reader of records stands
abbrev pub file_reading : FileReader → ItemReading
file_reading r = record { limit = r.records.limit; held = r.records.held; start = r.start }

-- how they are gone over, which are written in this form
abbrev pub record_walk : RecordForm → ItemWalk FileReader
record_walk form = record {
  reading = file_reading;
  kind = records_of form;
  limit = MAX_MESSAGE_LEN;
  base = 8;
  closing = record_closing form;
}

-- what is told of records that are written in this form
abbrev pub record_tells : RecordForm → Tells FileReader
record_tells form = item_tells (record_walk form)
