pub mod Addresses
pub mod Drawing
pub mod Fates
pub mod Faults
pub mod Told
pub mod Shown
pub mod Reaching
pub mod Recording
pub mod Marks
pub mod HeldParts
pub mod Holding
pub mod Steering
pub mod Turning
pub mod Settling
pub mod Serving
pub mod Watching
-- the words that clauses of other crates cite
pub use Rattle.proxy.specs.Fates.{Asked, Becomes, IsAsked, IsFate}
