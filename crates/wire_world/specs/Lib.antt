pub mod Records
pub mod Connections
pub mod Moving
pub mod Worlds
pub mod Rooms
pub mod Places
pub mod Setups
-- the words that clauses of other crates cite
pub use Rattle.wire_world.specs.Records.{contents_of, record_of, state_of}
