-- The lemmas that proofs of other crates use.

-- what was done at an end, and from there on, is one list of acts
pub use Rattle.wire_end.proofs.Runs.{runs_on}
pub use Rattle.wire_end.proofs.ServerRuns.{end_runs_on, moves_runs}
-- what one client and one server know
pub use Rattle.wire_end.proofs.OnePair.{are_answered, pair_knows}
