pub mod PoolLaws
pub mod RunLaws
pub mod OnceLaws
