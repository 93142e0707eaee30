pub mod Arguments
pub mod InputName
pub mod Statuses
pub mod Tables
pub mod Values
-- the words that clauses of other crates cite
pub use Rattle.command_words.specs.Arguments.{flag_rule, number_rule, text_rule}
pub use Rattle.command_words.specs.InputName.{NamesFile, name_text}
pub use Rattle.command_words.specs.Statuses.{error_status, words_status}
pub use Rattle.command_words.specs.Tables.{HoldsFlag, IsCount, IsMet, count_rule, operand_rule}
pub use Rattle.command_words.specs.Tables.{range_rule}
pub use Rattle.command_words.specs.Values.{AsksFor, AsksForMany, HasNumber, IsNumber, was_given}
