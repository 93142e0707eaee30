pub mod ParseLemmas
pub mod Shows
