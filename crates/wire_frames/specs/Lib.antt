pub mod Frames
pub mod FrameRule
pub mod Opcodes
pub mod Crc32c
pub mod Checksums
pub mod RawFrame
pub mod Fronts
pub mod Readers
pub mod Causes
pub mod FaultText
pub mod Heads
pub mod Records
pub mod RecordRule
pub mod Written
pub mod RawRecord
pub mod RecordFronts
pub mod RecordReaders
-- the words that clauses of other crates cite
pub use Rattle.wire_frames.specs.Checksums.{IsChecksumOf}
pub use Rattle.wire_frames.specs.Crc32c.{crc32c_of}
pub use Rattle.wire_frames.specs.Frames.{AreFrames, BeginsNoFrame, FrameSplit, IsFrame}
pub use Rattle.wire_frames.specs.Frames.{IsWholeFrame, LacksFrame, WantsMore}
pub use Rattle.wire_frames.specs.Fronts.{IsFrontFrame}
pub use Rattle.wire_frames.specs.Opcodes.{IsOwnKind, opcode_number}
pub use Rattle.wire_frames.specs.RawFrame.{frame_bytes}
pub use Rattle.wire_frames.specs.Readers.{FrameReading}
pub use Rattle.wire_frames.specs.Causes.{cause_name, cause_number, record_fault}
pub use Rattle.wire_frames.specs.FaultText.{record_fault_text}
pub use Rattle.wire_frames.specs.Heads.{HasHead, IsConnection, direction_number, signature}
pub use Rattle.wire_frames.specs.RawRecord.{record_bytes}
pub use Rattle.wire_frames.specs.RecordFronts.{IsFrontRecord}
pub use Rattle.wire_frames.specs.RecordReaders.{RecordReading}
pub use Rattle.wire_frames.specs.Records.{AreRecords, BeginsNoRecord, IsAtFault, IsRecord}
pub use Rattle.wire_frames.specs.Records.{IsWholeRecord, RecordSplit, head_of, message_of}
pub use Rattle.wire_frames.specs.Written.{Entry, record_of}
