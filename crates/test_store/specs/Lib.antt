pub mod Indexes
pub mod Held
pub mod Taking
pub mod Answers
pub mod Fields
pub mod Options
pub mod Selecting
pub mod Adding
pub mod Commands
pub mod Queries
pub mod Handling
-- the words that clauses of other crates cite
pub use Rattle.test_store.specs.Handling.{Answered, StopsAt}
pub use Rattle.test_store.specs.Held.{empty_store, store_of}
