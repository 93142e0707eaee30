-- Text that a writer holds.
use Rattle.std.proofs.Common.{◌++◌, ℕ, List, Option, None, Some}
use Rattle.std.specs.Coded.{coded_ℕ, coded_list}
use Rattle.std.specs.Io.KnownBytes.{Appends}
use base.Stored.{Coded-set}

-- two proofs that a text was written are the same proof
pub appends_prop : (old new : Option (List ℕ)) (text : List ℕ) → IsProp (Appends old new text)
appends_prop None new text = λ p q i. tt
appends_prop (Some xs) None text = λ p q. absurd p
appends_prop (Some xs) (Some ys) text = Coded-set (coded_list coded_ℕ) ys (xs ++ text)
