pub mod Heads
pub mod Passing
pub mod Respelling
pub mod ServerConnections
pub mod Kept
pub mod Slots
pub mod Connections
pub mod Serving
pub mod Gates
pub mod Owning
-- the words that clauses of other crates cite
pub use Rattle.wire_serve.specs.ServerConnections.{ConnAnswers, ConnTakes, ConnView, HasLeft}
pub use Rattle.wire_serve.specs.ServerConnections.{IsReady}
pub use Rattle.wire_serve.specs.ServerConnections.{ended_conn, new_conn, state_of}
pub use Rattle.wire_serve.specs.Heads.{IsOtherHeader, IsPart, IsWholeQuery}
pub use Rattle.wire_serve.specs.Passing.{with_request}
pub use Rattle.wire_serve.specs.Respelling.{NoRespelling, Respells}
pub use Rattle.wire_serve.specs.Slots.{SlotAct, SlotRun, SlotSeen, SlotTurns, Tells, new_slot}
pub use Rattle.wire_serve.specs.Slots.{tells}
pub use Rattle.wire_serve.specs.Connections.{AreNewConns, ConnsAct, ConnsDo, ConnsRun, ConnsSeen}
pub use Rattle.wire_serve.specs.Connections.{IsGated}
pub use Rattle.wire_serve.specs.Connections.{IsTurned, conns_seen, told_in, turns_of}
pub use Rattle.wire_serve.specs.Serving.{IsServed, Serves, SlotServed, made_by, of_acts, of_turns}
pub use Rattle.wire_serve.specs.Serving.{received_by, sent_by, taken_by}
pub use Rattle.wire_serve.specs.Gates.{Passes}
pub use Rattle.wire_serve.specs.Owning.{FedAs, GivenAs, HasServer, IsFed, IsGiven, OwnsServers}
