-- A test of what the elements of a list show.
use Rattle.std.proofs.Common.{◌≡◌, Bool, true, false, List, [], ◌∷◌, map, refl, ap}
use Rattle.std.specs.List.{filter}

filter_one : {X Y : Type 0} (f : X → Y) (p : Y → Bool) (x : X) (xs : List X) (b : Bool) → p (f x) ≡ b → map f (filter (λ (z : X). p (f z)) xs) ≡ filter p (map f xs)
    → map f (filter (λ (z : X). p (f z)) (x ∷ xs)) ≡ filter p (map f (x ∷ xs))
filter_one {X} {Y} f p x xs true e is = rw e (ap (λ (l : List Y). f x ∷ l) is)
filter_one f p x xs false e is = rw e is

pub filter_map : {X Y : Type 0} (f : X → Y) (p : Y → Bool) (xs : List X) → map f (filter (λ (x : X). p (f x)) xs) ≡ filter p (map f xs)
filter_map f p [] = refl
filter_map f p (x ∷ xs) = filter_one f p x xs _ refl (filter_map f p xs)
