pub mod Links
pub mod Pulls
pub mod Flushes
pub mod MemLinks
pub mod Readers
pub mod Holding
pub mod Cutting
pub mod Gathering
-- the words that clauses of other crates cite
pub use Rattle.wire_stream.specs.Cutting.{AnnouncesMore, Cuts, IsHeldOf, SpellEach}
pub use Rattle.wire_stream.specs.Flushes.{FlushesLater}
pub use Rattle.wire_stream.specs.Links.{AddsTurns, Rose, TellsEnd, TellsLater, Turn, bytes_moved}
pub use Rattle.wire_stream.specs.Links.{count_of}
pub use Rattle.wire_stream.specs.Pulls.{IsPulled, PullsLater}
pub use Rattle.wire_stream.specs.Readers.{CompletesHeader, Feeds, HoldsNoMore, IsRoom, Reading}
pub use Rattle.wire_stream.specs.Readers.{StandsAt}
