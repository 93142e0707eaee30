-- The laws of this crate in the shape in which proofs of other crates need them.
pub use Rattle.bson_raw.proofs.Splits.{documents_bytes-append, AreDocuments-append, is_document, Walked, none_walked, one_more, walked_all, walked_to_fault, split_walked, document_takes, same_split}
pub use Rattle.bson_raw.proofs.Walks.{inner_len}
pub use Rattle.bson_raw.proofs.DigitLaws.{decimal_is_name}
pub use Rattle.bson_raw.proofs.CountLaws.{count_fits, length-names_of-le}
pub use Rattle.bson_raw.proofs.PairLaws.{names_of-with_first}
