-- The lemmas that proofs of other crates use.

-- a text that is written in two pieces
pub use Rattle.wire_text.proofs.MessageTexts.{two_written}
-- a message of any opCode has one text
pub use Rattle.wire_text.proofs.FrameLaws.{one_of_frame}
