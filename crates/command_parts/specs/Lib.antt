pub mod Names
pub mod Answers
pub mod Answering
pub mod Brought
-- the words that clauses of other crates cite
pub use Rattle.command_parts.specs.Names.{first_name}
pub use Rattle.command_parts.specs.Answers.{build_pairs, double_one, error_pairs, hello_pairs}
pub use Rattle.command_parts.specs.Answers.{ok_alone, refusal_pairs}
pub use Rattle.command_parts.specs.Answering.{IsUnanswerable, WantsMemory}
pub use Rattle.command_parts.specs.Brought.{Appended, brought, in_sequence}
