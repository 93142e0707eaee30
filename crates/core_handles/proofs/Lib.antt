pub mod AsBox
pub mod Answering
pub mod Serving
