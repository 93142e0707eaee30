-- The lemmas that proofs of other crates stand on.

-- the message of a query
pub use Rattle.wire_query.proofs.MessageLaws.{message_spelled}
