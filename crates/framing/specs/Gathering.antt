-- How items are gathered, piece by piece.
use Rattle.std.specs.Prelude.{◌≡◌, ℕ, ◌≤◌, List, ◌++◌, length, take, Err}
use Rattle.std.specs.List.{concat}
use Rattle.framing.specs.Items.{AreItems, Announces, LacksLead, WantsMore}
use Rattle.framing.specs.Rules.{Rule}

-- The bytes are these items, one after another, and then the held bytes.
pub record Gathered {E : Type 0} (rule : Rule E) (bytes : List ℕ) (items : List (List ℕ))
    (held : List ℕ) : Type 0 where
  pub items_are : AreItems rule items
  pub parts : bytes ≡ concat items ++ held

-- what a reader holds between pieces: bytes of which more belong to an item, or a lead or a header
-- that no item has and no more than that
pub data IsHeld {E : Type 0} (rule : Rule E) (held : List ℕ) : Type 0 where
  held_open : (more : ℕ) → WantsMore rule held more → IsHeld rule held
  held_lead : (fault : E) → LacksLead rule held fault → length held ≡ rule.lead
      → IsHeld rule held
  held_header : (fault : E) → Announces rule held (Err fault) → length held ≡ rule.header
      → IsHeld rule held

-- A reader that held the old bytes was fed the piece until it wanted more or met a lead or a header
-- that no item has, and each item that became whole was told. It holds the new bytes now.
pub record Gathers {E : Type 0} (rule : Rule E) (found : List (List ℕ)) (old piece : List ℕ)
    (more : List (List ℕ)) (new : List ℕ) (taken : ℕ) : Type 0 where
  pub within : taken ≤ length piece
  pub gathered : (bytes : List ℕ) → Gathered rule bytes found old
      → Gathered rule (bytes ++ take taken piece) more new
  pub held_is : IsHeld rule new
  pub all : (n : ℕ) → WantsMore rule new n → taken ≡ length piece
