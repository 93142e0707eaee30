pub mod KnownBytes
pub mod OutBufs
pub mod Readings
pub mod Cuttings
pub mod Turns
pub mod Lemmas
