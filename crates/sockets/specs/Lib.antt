pub mod Delaying
pub mod Dues
pub mod Telling
pub mod Waiting
pub mod RelayActs
pub mod RelaySteps
pub mod Relaying
pub mod WayParts
-- the words that clauses of other crates cite
pub use Rattle.sockets.specs.Delaying.{Holds, index_of}
pub use Rattle.sockets.specs.Dues.{with_key}
pub use Rattle.sockets.specs.Telling.{listening_line, port_text}
pub use Rattle.sockets.specs.Waiting.{IsReady}
pub use Rattle.sockets.specs.RelayActs.{RelayAct, RelayMoves, RelayRun, RelayView, Turns, WayAct}
pub use Rattle.sockets.specs.RelayActs.{WayMoves, WayView, back_came, back_went, new_relay, tells}
pub use Rattle.sockets.specs.RelayActs.{there_came, there_went}
pub use Rattle.sockets.specs.Relaying.{HasPassed}
