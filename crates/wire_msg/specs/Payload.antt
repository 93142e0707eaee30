-- What a borrowed payload carries.
use Rattle.std.specs.Prelude.{◌≡◌, ℕ, ◌^◌, ◌<◌, List, ◌++◌}
use Rattle.bson_elem.specs.{Spells}
use Rattle.wire_msg.specs.Messages.{Sequence, Content, IsContent}
use Rattle.wire_msg.specs.Spelling.{sequences_bytes, message_len}

-- These are the bytes of the sequences before a body, of the body's document, and of the sequences
-- after it.
pub record AreParts (before body after : List ℕ) (c : Content) : Type 0 where
  pub first : List Sequence
  pub last : List Sequence
  pub first_are : before ≡ sequences_bytes first
  pub body_is : Spells c.body body
  pub last_are : after ≡ sequences_bytes last
  pub in_order : c.sequences ≡ first ++ last
  pub content : IsContent c
  pub short : message_len c < 2 ^ 31

abbrev pub IsPayload : List ℕ → List ℕ → List ℕ → Type 0
IsPayload before body after = (c : Content) × AreParts before body after c
