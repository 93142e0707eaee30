-- The first element of a list that passes a test.
use Rattle.std.specs.Prelude.{Bool, List, [], ◌∷◌, find, if◌then◌else◌, is_some}

-- whether one passes
abbrev pub has : {X : Type 0} → (X → Bool) → List X → Bool
has test xs = is_some (find test xs)

-- the list without the first one that passes
abbrev pub without_first : {X : Type 0} → (X → Bool) → List X → List X
without_first test [] = []
without_first test (x ∷ xs) = if test x then xs else x ∷ without_first test xs
