pub mod Contents
pub mod Escapes
pub mod Writing
-- the words that clauses of other crates cite
pub use Rattle.text_writer.specs.Contents.{HasFailed, ReturnsKept, text_contents}
pub use Rattle.text_writer.specs.Escapes.{needs_escape}
pub use Rattle.text_writer.specs.Writing.{WritesOut}
