-- The lemmas of crates below on owned documents that this crate's functions cite.
pub use Rattle.bson_doc.proofs.Lemmas.{pairs_of_tree}
pub use Rattle.doc_query.proofs.Lemmas.{names_count, values_of_array}
