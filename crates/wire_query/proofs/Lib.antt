pub mod Lemmas
pub mod FaultTexts
pub mod ReadLaws
pub mod FaultLaws
pub mod PartLaws
pub mod DatabaseLaws
pub mod ReplyLaws
pub mod MessageLaws
