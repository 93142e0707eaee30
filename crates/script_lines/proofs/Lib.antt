pub mod Cuts
pub mod Endings
pub mod Lemmas
pub mod Numerals
