-- The keys of connections that are to take another turn.
use Rattle.std.specs.Prelude.{ℕ, ◌==◌, if◌then◌else◌, List, [], ◌∷◌, ◌++◌}
use Rattle.std.specs.List.{list_any}

-- the keys with this one, which comes last where it is new
abbrev pub with_key : ℕ → List ℕ → List ℕ
with_key key keys = if list_any (λ k. k == key) keys then keys else keys ++ key ∷ []
