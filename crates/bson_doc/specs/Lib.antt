pub mod NameList
pub mod NameSlots
pub mod Plain
pub mod Values
pub mod Refusals
pub mod Room
pub mod RawDocumentBuf
pub mod Depths
pub mod Codes
pub mod Bson
pub mod Sizes
pub mod Document
pub mod Appended
pub mod Array
pub mod DocumentIter
pub mod Repeats
pub mod Unwritable
pub mod Formed
pub mod Leaves
pub mod Same
pub use Rattle.bson_text.specs.Text
pub use Rattle.bson_text.specs.ValueText
pub use Rattle.bson_text.specs.Dump
-- the words that clauses of other crates cite
pub use Rattle.bson_doc.specs.Array.{array_tree}
pub use Rattle.bson_doc.specs.Bson.{value_of}
pub use Rattle.bson_doc.specs.Codes.{coded_value}
pub use Rattle.bson_doc.specs.Document.{Pairs, pairs_of, put, tree_of}
pub use Rattle.bson_doc.specs.Plain.{canonical_len, plain}
pub use Rattle.bson_doc.specs.Repeats.{repeat_depth}
pub use Rattle.bson_doc.specs.Room.{IsLengthWithin}
pub use Rattle.bson_doc.specs.Same.{same}
pub use Rattle.bson_doc.specs.Unwritable.{IsUnwritable}
pub use Rattle.bson_doc.specs.Values.{value_len}
