pub mod Progress
pub mod Runs
pub mod Lanes
pub mod Hexadecimal
pub mod Lemmas
