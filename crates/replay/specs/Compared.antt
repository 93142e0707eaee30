-- What comparing two answers comes to.
use Rattle.std.specs.Prelude.{◌≤◌, ℕ, List, drop, length}
use Rattle.std.specs.Prelude.{◌≡◌}
use Rattle.wire_msg.specs.declared.header.TheConstants.{MAX_MESSAGE_LEN}
use Rattle.wire_msg.specs.{IsMessage, Message, SpellsMsg}
use Rattle.replay.specs.Counts.{HasCounted}
use Rattle.replay.specs.Held.{IsReply}
use Rattle.replay.specs.Same.{AreSameMessages}
use Rattle.replay.specs.declared.tally.Tally.{Tally}

-- The recorded answer was compared with the one of the server, but for the fields of these names,
-- and counted as the same or as different: two messages, or two that are neither messages nor
-- OP_REPLYs.
pub record IsCompared (names : List (List ℕ)) (recorded received : List ℕ)
    (before after : Tally) : Type 0 where
  pub messages : (m n : Message) → SpellsMsg m recorded → SpellsMsg n received
      → length recorded ≤ MAX_MESSAGE_LEN → length received ≤ MAX_MESSAGE_LEN
      → HasCounted (AreSameMessages names m n) before after
  pub other : ¬ IsMessage MAX_MESSAGE_LEN recorded → ¬ IsMessage MAX_MESSAGE_LEN received
      → ¬ IsReply recorded → ¬ IsReply received
      → HasCounted (drop 12 recorded ≡ drop 12 received) before after
