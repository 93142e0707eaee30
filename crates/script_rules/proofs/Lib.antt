pub mod WholeBody
pub mod Handled
pub mod Meets
pub mod Used
