pub mod ExitStatus
pub mod Serving
pub mod CommandLine
pub mod Choices
