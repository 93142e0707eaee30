-- The lemmas that proofs of other crates stand on.

-- what bytes begin with, and the frames that they split into
pub use Rattle.wire_frames.proofs.FrontLaws.{lacking_longer, lacking_not_whole, number_front, one_front, one_split, wants_not_lacking, wants_not_whole, wants_once, WholeSize, whole_size}
-- messages, opCodes and checksums
pub use Rattle.wire_frames.proofs.MessageLaws.{message_framed, lacking_bad, one_kind, one_checksum}
-- what bytes of records begin with, and the records that they split into
pub use Rattle.wire_frames.proofs.RecordLaws.{WholeParts, drop_front, fault_once, faulty_longer, faulty_not_whole, one_record, one_record_split, record_wants_once, take_front, wants_no_record, wants_not_faulty, whole_parts}
