mod Doubles
mod Escaped
mod Base64
mod Ordered
mod Rising
mod Zeros
pub mod Choices
mod Walking
pub mod Lemmas
