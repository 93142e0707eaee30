-- The lemmas that proofs of other crates stand on.

-- a message as its bytes are read
pub use Rattle.wire_msg.proofs.MsgAnswers.{MsgRead, msg_read}
-- the header
pub use Rattle.wire_msg.proofs.FrameLaws.{header_of-take}
-- numbers of four bytes, as bytes are read and written
pub use Rattle.wire_msg.proofs.FrameLaws.{number_fits, four_bytes, signed_bytes, split_at}
pub use Rattle.wire_msg.proofs.MsgAnswers.{FiveParts, five_parts, here, past, number_is, signed_is}
-- bytes added, one after another
pub use Rattle.wire_msg.proofs.WriteLaws.{on_ok, on_err, appended, keeps_front, then_more}
pub use Rattle.wire_msg.proofs.FaultOffsets.{header_offset, fault_offset}
-- open, whole and bad bytes
pub use Rattle.wire_msg.proofs.StandingLaws.{header_front, one_message, one_front, no_other, open_not_whole, open_not_bad, bad_not_whole, bad_once, bad_early, no_message, least_length, WholeRead, whole_read, bad_longer, open_shorter, open_inside}
pub use Rattle.wire_msg.proofs.FrontLaws.{IsBytes-front, open_or_bad, stands}
-- messages and a rest
pub use Rattle.wire_msg.proofs.SplitLaws.{one_split, only_split, spelled-append, spelled_alone, open_ends, bad_ends, whole_first, messages_first, goes_on, bad_goes_on, Cut, no_cut, cut_more, cut_smaller, cut_ends}
-- contents
pub use Rattle.wire_msg.proofs.WriteLaws.{length-canonical, canonical_spelled}
pub use Rattle.wire_msg.proofs.ContentLaws.{length-spelled, one_content}
-- spelled bytes
pub use Rattle.wire_msg.proofs.ByteLaws.{bytes_append, spelled_bytes, msg_are_bytes, joined_are_bytes}
pub use Rattle.wire_msg.proofs.MsgAnswers.{no_msg_fault, one_msg_fault}
