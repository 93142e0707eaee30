-- Ends with limits of their own.
use Rattle.std.specs.Prelude.{ℕ, zero, suc, List, [], ◌∷◌, ◌++◌}
use Rattle.wire_peer.specs.{ServerView, new_server}
use Rattle.wire_model.specs.Owners.{Made, ServerEnds}

-- servers before their first requests, each with its own limit on messages
abbrev pub servers_with : (limits : ℕ → ℕ) → (ℕ → Made) → ℕ → List ServerView
servers_with limits made zero = []
servers_with limits made (suc k) =
    servers_with limits made k
    ++ new_server (suc k) (made (suc k)).server_window (limits (suc k)) ∷ []

abbrev pub servers_with_limits : {H : Type 0} → (limits : ℕ → ℕ) → (ℕ → Made) → ℕ → H
    → ServerEnds H
servers_with_limits limits made k h =
    record { servers = servers_with limits made k; log = []; handler = h }
