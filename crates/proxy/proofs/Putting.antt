-- Bytes that are put before what is held.
use Rattle.std.proofs.Common.{◌≡◌, ◌∙◌, ◌++◌, ℕ, List, Result, Ok, Err, OnOk, ap}
use Rattle.std.specs.Prelude.{⊤}
use Rattle.proxy.specs.Holding.{HeldView, IsStill}

pub is_put : {L E : Type 0} (r : Result ⊤ E) (old new : HeldView L) (before bytes behind : List ℕ) → new.link ≡ old.link → new.left ≡ old.left
    → OnOk r (new.owed ≡ before ++ bytes) → before ≡ old.owed → OnOk r (new.rest ≡ behind) → behind ≡ old.rest
    → OnOk r (IsStill old new × (new.owed ≡ old.owed ++ bytes) × (new.rest ≡ old.rest))
is_put (Err e) old new before bytes behind link left owed front rest tail = tt
is_put (Ok u) old new before bytes behind link left owed front rest tail = ((link, left), owed ∙ ap (λ (l : List ℕ). l ++ bytes) front, rest ∙ tail)
