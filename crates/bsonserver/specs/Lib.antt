pub mod Turning
pub mod CommandLine
pub mod Choices
pub mod Runs
pub mod ExitStatus
