pub mod MessageTexts
pub mod MessageJsons
pub mod FrameTexts
pub mod FrameLaws
pub mod Lemmas
