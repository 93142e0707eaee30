pub mod Owning
pub mod Sums
pub mod Numbering
pub mod FreeNumbers
pub mod PathCounts
pub mod Overlaps
pub mod ElementLaws
pub mod Placings
