pub mod Lemmas
pub mod NumberLemmas
pub mod FoundRows
pub mod Stops
pub mod FormLemmas
pub mod LineLemmas
pub mod LoopLemmas
