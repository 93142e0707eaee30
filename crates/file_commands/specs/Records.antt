-- What is written for records back to back, behind the signature of their file.
use Rattle.std.specs.Prelude.{◌≡◌, ℕ, ◌+◌, List}
use Rattle.wire_frames.specs.declared.fault.RecordFault.{RecordFault}
use Rattle.wire_frames.specs.Records.{IsAtFault, IsRecord, WantsMore}
use Rattle.file_commands.specs.declared.record_text.RecordForm.{RecordForm}
use Rattle.file_commands.specs.InputFault.{ended_inside_line, record_line}
use Rattle.file_commands.specs.Output.{TextOf}
use Rattle.file_commands.specs.Items.{AllItems, FirstItems, ItemKind, ItemsText}
use Rattle.file_commands.specs.RecordText.{IsRecordText, record_closing}
use Rattle.wire_msg.specs.declared.header.TheConstants.{MAX_MESSAGE_LEN}

-- more bytes decide whether these begin with a record
abbrev pub IsOpenRecord : ℕ → List ℕ → Type 0
IsOpenRecord limit bytes = (more : ℕ) × WantsMore limit bytes more

-- Records whose messages are within a limit, which are written in this form. A fault is told at its
-- offset in the input.
abbrev pub records_of : RecordForm → ℕ → ItemKind
records_of form limit = record {
  is_item = IsRecord limit;
  is_open = IsOpenRecord limit;
  inside_line = ended_inside_line;
  is_bad = λ start bytes line.
      (f : RecordFault) × IsAtFault limit bytes f × (line ≡ record_line (start + f.at) f.cause);
  is_text = IsRecordText form;
}

-- What is written for the bytes behind the eight of the signature, and whether it ends with a fault
-- line. A message has at most 48,000,000 bytes.
abbrev pub RecordsText : RecordForm → TextOf
RecordsText form = ItemsText (records_of form MAX_MESSAGE_LEN) 8 (record_closing form)

-- the texts of the first few records in some bytes behind the signature
abbrev pub FirstRecords : RecordForm → List ℕ → List ℕ → Type 0
FirstRecords form = FirstItems (records_of form MAX_MESSAGE_LEN) 8

-- the texts of all of them, up to the first fault
abbrev pub AllRecords : RecordForm → List ℕ → List ℕ → Type 0
AllRecords form = AllItems (records_of form MAX_MESSAGE_LEN) 8
