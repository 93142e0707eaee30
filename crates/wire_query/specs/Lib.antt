pub mod Causes
pub mod FaultText
pub mod Database
pub mod Queries
pub mod Spelling
pub mod Faults
pub mod Checks
pub mod RawQuery
pub mod Replies
-- the words that clauses of other crates cite
pub use Rattle.wire_query.specs.Causes.{query_fault}
pub use Rattle.wire_query.specs.FaultText.{query_fault_text}
pub use Rattle.wire_query.specs.Faults.{FaultQuery}
pub use Rattle.wire_query.specs.Queries.{IsDatabase, Query, command_name, message_of}
pub use Rattle.wire_query.specs.RawQuery.{raw_query_bytes}
pub use Rattle.wire_query.specs.Replies.{reply_bytes, reply_len}
pub use Rattle.wire_query.specs.Spelling.{IsQuery, IsSpelledQuery, SpellsQuery}
