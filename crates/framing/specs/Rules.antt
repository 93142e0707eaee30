-- How items tell their length.
use Rattle.std.specs.Prelude.{◌≡◌, ℕ, ◌<◌, ◌≤◌, List, Result, Ok, ⊤}

-- How many bytes a lead has, and whether its bytes pass, or why no item begins with them; and how
-- many bytes a header has, which begins with the lead, and what the bytes of one announce: how many
-- bytes the whole item has, or why no item has this header.
pub record Rule (E : Type 0) : Type 0 where
  pub lead : ℕ
  pub check : List ℕ → Result ⊤ E
  pub header : ℕ
  pub total : List ℕ → Result ℕ E

-- A header has bytes, begins with the lead, and belongs to the item that it announces.
pub record IsSound {E : Type 0} (rule : Rule E) : Type 0 where
  pub some : 0 < rule.header
  pub begins : rule.lead ≤ rule.header
  pub least : (bytes : List ℕ) (n : ℕ) → rule.total bytes ≡ Ok n → rule.header ≤ n
