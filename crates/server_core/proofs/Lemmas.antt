-- The lemmas that proofs of other crates use.

-- what a server does goes on what it did
pub use Rattle.server_core.proofs.Steps.{on_any, serves_none, serves_twice}
