pub mod Asking
pub mod Lines
pub mod Owning
pub mod Pairs
