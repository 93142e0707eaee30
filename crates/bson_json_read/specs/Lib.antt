pub mod Brackets
pub mod Bytes
pub mod Lossless
pub mod Causes
pub mod Cursor
pub mod DecimalText
pub mod Direct
pub mod Extents
pub mod Forms
pub mod Frames
pub mod Iso
pub mod Leaf
pub mod Numbers
pub mod Pieces
pub mod Places
pub mod Reads
pub mod Seeking
pub mod Seen
pub mod Sequences
pub mod Sources
pub mod Table
pub mod Texts
pub mod Values
pub mod Zeros
-- the words that clauses of other crates cite
pub use Rattle.bson_json_read.specs.Causes.{text_fault_text}
pub use Rattle.bson_json_read.specs.Extents.{text_len}
pub use Rattle.bson_json_read.specs.Pieces.{Held, IsOpen, MayFollow, MovesBy, StandsBehind}
pub use Rattle.bson_json_read.specs.Places.{StandsIn, place_behind}
pub use Rattle.bson_json_read.specs.Sequences.{AreRead, Fails, Gives, GivesBytes, HasNoBytes, Left}
pub use Rattle.bson_json_read.specs.Sequences.{ReadsTo, next_in, nothing, utf8_read}
pub use Rattle.bson_json_read.specs.Texts.{document_in}
pub use Rattle.bson_json_read.specs.Values.{Pair}
