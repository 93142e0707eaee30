pub mod MessageText
pub mod MessageJson
pub mod FrameText
-- the words that clauses of other crates cite
pub use Rattle.wire_text.specs.FrameText.{IsFrameText}
pub use Rattle.wire_text.specs.MessageJson.{IsMessageJson}
pub use Rattle.wire_text.specs.MessageText.{message_text, msg_fault_line, text_of_sequence}
