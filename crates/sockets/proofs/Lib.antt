pub mod Delaying
pub mod Windows
pub mod Ways
pub mod RelayRuns
pub mod Passed
