-- The messages that bytes hold one after another, and the rest after them.
use Rattle.std.specs.Prelude.{ℕ, ◌≤◌, List, length}
use Rattle.framing.specs.{BackToBack, SplitsInto}
use Rattle.wire_msg.specs.Messages.{Message}
use Rattle.wire_msg.specs.Spelling.{SpellsMsg}
use Rattle.wire_msg.specs.Standing.{IsWhole}

-- the bytes spell the message, and are within the limit
abbrev pub SpellsWithin : ℕ → Message → List ℕ → Type 0
SpellsWithin limit m bytes = SpellsMsg m bytes × (length bytes ≤ limit)

-- no message within the limit is at the front of the bytes
abbrev pub BeginsNone : ℕ → List ℕ → Type 0
BeginsNone limit bytes = (m : Message) (after : List ℕ) → IsWhole limit bytes m after → ⊥

-- the bytes are spellings of the messages, each within the limit, one after another
abbrev pub AreSpelled : ℕ → List Message → List ℕ → Type 0
AreSpelled limit messages bytes = BackToBack (SpellsWithin limit) messages bytes

-- the bytes are spellings of the messages, one after another, and then a rest that begins with no
-- message within the limit
abbrev pub Split : ℕ → List ℕ → List Message → List ℕ → Type 0
Split limit bytes messages rest =
    SplitsInto (SpellsWithin limit) (BeginsNone limit) bytes messages rest
