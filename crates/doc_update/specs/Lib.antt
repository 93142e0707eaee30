pub mod WriteErrors
pub mod Identity
pub mod Increments
pub mod Paths
pub mod Operators
pub mod Elements
pub mod Setting
pub mod Removing
pub mod Changing
pub mod Upserts
pub mod Deleting
pub mod Updating
-- the words that clauses of other crates cite
pub use Rattle.doc_update.specs.WriteErrors.{has_error, write_error}
pub use Rattle.doc_update.specs.Identity.{free_number, id_fault, id_in, identified, is_taken}
pub use Rattle.doc_update.specs.Identity.{made_id}
pub use Rattle.doc_update.specs.Operators.{is_one_of}
pub use Rattle.doc_update.specs.Deleting.{after_deletes}
pub use Rattle.doc_update.specs.Updating.{UpdatesView, after_updates}
