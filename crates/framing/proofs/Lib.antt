pub mod ItemLaws
pub mod LengthLaws
pub mod Splits
pub mod Cuttings
pub mod Lemmas
