pub mod Failing
pub mod Parsing
