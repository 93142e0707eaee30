pub mod Transcript
pub mod Replies
pub mod Serving
pub mod Stops
pub mod Written
-- the words that clauses of other crates cite
pub use Rattle.server_core.specs.Serving.{IsServing, ServesOn, reply_flow, settled}
pub use Rattle.server_core.specs.Written.{IsTranscript}
