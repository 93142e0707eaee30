-- The limits of a connection.
use Rattle.std.specs.Prelude.{ℕ, ◌≤◌}
use Rattle.wire_msg.specs.declared.header.TheConstants.{MAX_MESSAGE_LEN}

-- from 1 to 1,024: how many requests may wait, and calls be outstanding
abbrev pub IsWindow : ℕ → Type 0
IsWindow window = (1 ≤ window) × (window ≤ 1024)

-- from 26 to 48,000,000: how many bytes a message may have
abbrev pub IsLimit : ℕ → Type 0
IsLimit limit = (26 ≤ limit) × (limit ≤ MAX_MESSAGE_LEN)
