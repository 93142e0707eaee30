-- Text that is written piece by piece.
use Rattle.std.proofs.Common.{◌≡◌, ◌++◌, ◌∷◌, [], ℕ, ◌+◌, ◌<◌, List, Option, Some, None, Result, Ok, Err, map, take, get_or, length, sym, ap, ◌∙◌}
use Rattle.std.specs.Prelude.{OnOk, flat_map}
use Rattle.std.specs.Coded.{coded_ℕ, coded_list}
use base.Stored.{Coded-set}
use Rattle.std.specs.Io.KnownBytes.{Appends}
use Rattle.std.proofs.lemmas.List.{flat_map_more, map_more}

-- two proofs that a text was written are the same proof
pub written_prop : {E : Type 0} (r : Result (Unit {0}) E) (a b : Option (List ℕ)) (text : List ℕ) → IsProp (OnOk r (Appends a b text))
written_prop (Err e) a b text = λ p q i. tt
written_prop (Ok u) None b text = λ p q i. tt
written_prop (Ok u) (Some x) None text = λ p q. absurd p
written_prop (Ok u) (Some x) (Some y) text = Coded-set (coded_list coded_ℕ) y (x ++ text)

-- the texts of one more
pub one_more : {X Y : Type 0} (f : Y → List ℕ) (v : X → Y) (xs : List X) (i : ℕ) (x : X) → i < length xs → x ≡ get_or xs i x
    → flat_map f (map v (take i xs)) ++ f (v x) ≡ flat_map f (map v (take (i + 1) xs))
one_more {X} {Y} f v xs i x inside is =
    flat_map_more f [] (map v (take i xs)) (v x)
    ∙ ap (flat_map f) (ap (λ (y : X). map v (take i xs) ++ v y ∷ []) is ∙ sym (map_more v xs i x inside))
