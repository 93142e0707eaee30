pub mod Words
pub mod Naming
pub mod Lent
pub mod Reading
pub mod Same
pub mod Reports
pub mod Closing
pub mod Scripts
pub mod Played
pub mod Running
pub mod Calling
pub mod Loopback
-- the words that clauses of other crates cite
pub use Rattle.wire_play.specs.Closing.{closing_text}
pub use Rattle.wire_play.specs.Lent.{IsLine, Lends}
pub use Rattle.wire_play.specs.Loopback.{AppendsUpTo, HaveRun, HaveTold, loop_text}
pub use Rattle.wire_play.specs.Naming.{Named, Names, NamesBytes, event, setup}
pub use Rattle.wire_play.specs.Reports.{result_line}
pub use Rattle.wire_play.specs.Running.{ScriptText}
pub use Rattle.wire_play.specs.Same.{IsSame}
pub use Rattle.wire_play.specs.Scripts.{TextUpTo, Writes}
pub use Rattle.wire_play.specs.Words.{words_of}
