pub mod Written
pub mod Acting
pub mod Moving
pub mod Keeping
pub mod Knowing
pub mod Listing
