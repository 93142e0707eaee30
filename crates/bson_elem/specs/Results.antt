-- What a function of the code returns, by a definition of it.
use Rattle.std.specs.Prelude.{◌≡◌, Result, Ok, Err}

-- The definition gives what the function returns: the value that its result shows, or the same
-- error.
abbrev pub Gives : {X Y E : Type 0} → (X → Y) → Result X E → Result Y E → Type 0
Gives view (Ok x) read = read ≡ Ok (view x)
Gives view (Err e) read = read ≡ Err e
