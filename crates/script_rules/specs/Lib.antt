pub mod Asked
pub mod Rules
pub mod Codes
pub mod Meeting
pub mod Handling
-- the words that clauses of other crates cite
pub use Rattle.script_rules.specs.Rules.{RuleView, flow_of, is_live, meets, used}
pub use Rattle.script_rules.specs.Meeting.{IsFirstLive, after, first_met, flow_by, met, uses}
pub use Rattle.script_rules.specs.Handling.{AnswersBy, IsAnswered, IsStopped, StopsBy}
