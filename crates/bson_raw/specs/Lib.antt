pub mod Naming
pub mod Checks
pub mod Spelled
pub mod Split
pub mod Pairs
pub mod Left
pub mod Held
pub mod RawDocument
pub mod RawArray
pub mod RawBson
pub mod RawIter
pub mod Totals
pub mod Doubles
-- the words that clauses of other crates cite
pub use Rattle.bson_raw.specs.Doubles.{double_bytes, double_of}
pub use Rattle.bson_raw.specs.Naming.{is_array_kind, is_plain, name_at}
pub use Rattle.bson_raw.specs.Pairs.{TreeValue, document_value, first_named, first_repeated}
pub use Rattle.bson_raw.specs.Pairs.{is_among, leaf_value, names_of, nth_value, with_first}
pub use Rattle.bson_raw.specs.RawArray.{array_bytes}
pub use Rattle.bson_raw.specs.RawBson.{Shows, ShowsFound, held_len}
pub use Rattle.bson_raw.specs.RawDocument.{document_bytes}
pub use Rattle.bson_raw.specs.RawIter.{PairsLeft, pairs_bound, walked_len}
pub use Rattle.bson_raw.specs.Spelled.{IsSpelled, WholeFault}
pub use Rattle.bson_raw.specs.Split.{AreDocuments, DocumentSplit, EndsDocuments, IsDocument}
pub use Rattle.bson_raw.specs.Split.{documents_bytes}
pub use Rattle.bson_raw.specs.Totals.{elements_in, sizes_in}
