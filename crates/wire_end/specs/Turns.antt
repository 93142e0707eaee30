-- The calls of `recv` while a message is waited for.
use Rattle.std.specs.Prelude.{ℕ, Option, List, [], ◌∷◌, ◌++◌}
use Rattle.std.specs.Io.KnownBytes.{Appends, Keeps}
use Rattle.wire_msg.specs.{IsOpen}
use Rattle.wire_stream.specs.{Turn}

-- At each of these calls of `recv` nothing had been sent since the wait began, and the bytes that
-- were held then, with those that had been received since, were open.
abbrev pub AreBetween : ℕ → (received sent : Option (List ℕ)) → (held : List ℕ) → List Turn → Type 0
AreBetween limit received sent held [] = Unit {0}
AreBetween limit received sent held (t ∷ ts) =
    Keeps sent t.sent
    × ((more : List ℕ) × Appends received t.received more × IsOpen limit (held ++ more))
    × AreBetween limit received sent held ts
