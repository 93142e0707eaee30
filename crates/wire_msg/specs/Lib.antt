pub mod Causes
pub mod Refusals
pub mod Messages
pub mod Spelling
pub mod Header
pub mod Faults
pub mod FaultText
pub mod Payload
pub mod Carrying
pub mod Checks
pub mod Known
pub mod Documents
pub mod Sequences
pub mod RawMsg
pub mod Standing
pub mod Splits
pub mod Front
pub mod Writing
pub mod Buf
pub mod Fields
-- the words that clauses of other crates cite
pub use Rattle.wire_msg.specs.Buf.{BufCarries, IsBodyRefusal, body_alone}
pub use Rattle.wire_msg.specs.Carrying.{Carries}
pub use Rattle.wire_msg.specs.Causes.{msg_fault}
pub use Rattle.wire_msg.specs.Documents.{DocumentsAre}
pub use Rattle.wire_msg.specs.FaultText.{fault_text}
pub use Rattle.wire_msg.specs.Faults.{FaultMsg}
pub use Rattle.wire_msg.specs.Header.{HeaderFault, IsGoodHeader, header_of, number_at}
pub use Rattle.wire_msg.specs.Messages.{Content, IsContent, Message, Sequence}
pub use Rattle.wire_msg.specs.RawMsg.{msg_bytes}
pub use Rattle.wire_msg.specs.Spelling.{IsMessage, IsSpelledMsg, SpellsMsg, canonical, message_len}
pub use Rattle.wire_msg.specs.Splits.{AreSpelled, BeginsNone, SpellsWithin, Split}
pub use Rattle.wire_msg.specs.Standing.{IsBad, IsOpen, IsWhole}
pub use Rattle.wire_msg.specs.Writing.{IsWriteRefusal}
