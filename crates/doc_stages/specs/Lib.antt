pub mod Sorting
pub mod Projection
pub mod Batches
pub mod Pipelines
-- the words that clauses of other crates cite
pub use Rattle.doc_stages.specs.Sorting.{are_keys, sort_field, sorted_in}
pub use Rattle.doc_stages.specs.Pipelines.{after_stages}
pub use Rattle.doc_stages.specs.Projection.{projected, projection_field}
pub use Rattle.doc_stages.specs.Batches.{after_batch, next_batch}
