pub mod Tokens
pub mod Written
pub mod Lines
pub mod Scripts
pub mod Faults
-- the words that clauses of other crates cite
pub use Rattle.test_script.specs.Lines.{FailsBy, IsRule}
pub use Rattle.test_script.specs.Scripts.{AreRules, FailsAt, IsMisread, IsScript}
