-- The lemmas that proofs of other crates cite.
pub use Rattle.doc_query.proofs.Filtering.{turned}
pub use Rattle.doc_query.proofs.Owning.{names_count, values_of_array}
pub use Rattle.doc_query.proofs.Shown.{no_document}
