pub mod Kept
pub mod Needs
pub mod Routing
pub mod Sharing
pub mod Acts
pub mod Mixing
pub mod Answering
pub mod Placing
pub mod Cores
pub mod Core_laws
pub mod Refusing
pub mod Running
-- the words that clauses of other crates cite
pub use Rattle.wire_share.specs.Sharing.{DownSeen, GiveStep, PassStep, UpSeen, new_downstream}
pub use Rattle.wire_share.specs.Sharing.{new_upstream}
