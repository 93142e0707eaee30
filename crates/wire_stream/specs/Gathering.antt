-- How messages are gathered, piece by piece.
use Rattle.std.specs.Prelude.{◌≡◌, ◌≢◌, ℕ, ◌≤◌, List, ◌++◌, length, take}
use Rattle.wire_msg.specs.{Message}
use Rattle.wire_stream.specs.declared.reader_state.Fed.{Fed}
use Rattle.wire_stream.specs.declared.reader_state.ReaderState.TheVariants.{Need, Ready}
use Rattle.wire_stream.specs.Cutting.{SpellEach, joined}
use Rattle.wire_stream.specs.Readers.{HoldsNoMore, StandsAt}

-- The bytes are the messages that were found, one after another, and then the held bytes.
pub record Gathered (limit : ℕ) (bytes : List ℕ) (found : List (List ℕ))
    (held : List ℕ) : Type 0 where
  pub messages : List Message
  pub spelled : SpellEach limit messages found
  pub parts : bytes ≡ joined found ++ held

-- A reader that held the old bytes was fed the piece until it needed more or met bad bytes, and
-- each message that became whole was moved out. It holds the new bytes now.
pub record Gathers (limit : ℕ) (found : List (List ℕ)) (old piece : List ℕ) (more : List (List ℕ))
    (new : List ℕ) (fed : Fed) : Type 0 where
  pub taken : fed.taken ≤ length piece
  pub gathered : (bytes : List ℕ) → Gathered limit bytes found old
      → Gathered limit (bytes ++ take fed.taken piece) more new
  pub state : StandsAt limit new fed.state
  pub no_more : HoldsNoMore limit new
  pub all : fed.state ≡ Need → fed.taken ≡ length piece
  pub no_message : fed.state ≢ Ready
