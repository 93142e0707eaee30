pub mod Records
pub mod Ends
pub mod Steps
pub mod ServerEnds
pub mod ServerFeeds
pub mod NextRequests
pub mod Turns
pub mod OnePair
pub mod Serving
pub mod Answering
-- the words that clauses of other crates cite
pub use Rattle.wire_end.specs.Records.{record_of, records_of}
pub use Rattle.wire_end.specs.Ends.{EndRuns, EndSeen, FailsAs, HandsOut, IsWaiting, NextEnds}
pub use Rattle.wire_end.specs.Ends.{NextLater, StandsAs, first_client, new_end}
pub use Rattle.wire_end.specs.ServerEnds.{GoesOver, ServerEndMoves, ServerEndRuns, ServerEndSeen}
pub use Rattle.wire_end.specs.ServerEnds.{new_server_end, with_logged}
pub use Rattle.wire_end.specs.NextRequests.{RequestComes, RequestFails, RequestLater, TakesMore}
pub use Rattle.wire_end.specs.OnePair.{AreAnswered, AreInOrder, PairKnows}
pub use Rattle.wire_end.specs.Serving.{EndsAs, IsUnused, Seen, Served, seen, serve_out}
