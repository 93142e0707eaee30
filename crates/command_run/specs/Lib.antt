pub mod Run
pub mod Buffered
pub mod Output
pub mod FaultLine
-- the words that clauses of other crates cite
pub use Rattle.command_run.specs.Buffered.{buffered_contents}
pub use Rattle.command_run.specs.FaultLine.{fault_line}
pub use Rattle.command_run.specs.Output.{AppendsText, is_there, or_nothing}
pub use Rattle.command_run.specs.Run.{IsCutShort, end_of_error, is_done, is_fault}
