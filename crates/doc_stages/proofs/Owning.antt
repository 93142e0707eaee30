-- The lemma of doc_query on how many pairs a document has, which this crate's functions cite.
pub use Rattle.doc_query.proofs.Lemmas.{names_count}
