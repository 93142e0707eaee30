pub mod Texts
pub mod Steps
pub mod Transcripts
pub mod Lemmas
