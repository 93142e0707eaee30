-- The lemmas that proofs of other crates cite.
pub use Rattle.bson_doc.proofs.Naming.{plain_where_named}
pub use Rattle.bson_doc.proofs.Owned.{pairs_of_tree}
