pub mod Lines
pub mod Left
pub mod Words
-- the words that clauses of other crates cite
pub use Rattle.script_lines.specs.Left.{GivesLine, lines_bound, lines_left}
pub use Rattle.script_lines.specs.Lines.{is_passed_over, lines_from, lines_of, script_lines}
pub use Rattle.script_lines.specs.Words.{IsHex, IsNumber}
