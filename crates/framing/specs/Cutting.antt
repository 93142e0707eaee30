-- All items of some bytes, and what a reader holds after them.
use Rattle.std.specs.Prelude.{◌≡◌, ℕ, List, take, Err}
use Rattle.framing.specs.Items.{Announces, ItemSplit, LacksLead, WantsMore}
use Rattle.framing.specs.Rules.{Rule}

-- what a reader holds of a rest: all of it if it is open, and otherwise the lead or the header that
-- no item has
pub data IsHeldOf {E : Type 0} (rule : Rule E) (rest held : List ℕ) : Type 0 where
  all : (more : ℕ) → WantsMore rule rest more → held ≡ rest → IsHeldOf rule rest held
  lead : (fault : E) → LacksLead rule rest fault → held ≡ take rule.lead rest
      → IsHeldOf rule rest held
  header : (fault : E) → Announces rule rest (Err fault) → held ≡ take rule.header rest
      → IsHeldOf rule rest held

-- The bytes split into the items that were found and a rest, of which this is held.
pub record Cuts {E : Type 0} (rule : Rule E) (bytes : List ℕ) (found : List (List ℕ))
    (held : List ℕ) : Type 0 where
  pub rest : List ℕ
  pub split : ItemSplit rule bytes found rest
  pub of_rest : IsHeldOf rule rest held
