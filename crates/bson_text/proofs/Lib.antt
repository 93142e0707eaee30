pub mod Indent
pub mod Quoted
pub mod Lines
pub mod Ends
pub mod Items
