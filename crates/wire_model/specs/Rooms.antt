-- The bytes for which a server needs no memory.
use Rattle.std.specs.Prelude.{ℕ, ◌+◌, ◌<◌, ◌≤◌, ◌⊎◌, length}
use Rattle.wire_stream.specs.{IsRoom}
use Rattle.wire_peer.specs.{ServerView}

-- The server needs no memory for the next n bytes: they end before the header of the current
-- message is complete, or inside the message that this header announced.
abbrev pub HasRoomFor : ServerView → ℕ → Type 0
HasRoomFor s n =
    (length s.held + n < 16)
    ⊎ ((room : ℕ) × (16 ≤ length s.held) × IsRoom s.limit s.held room × (length s.held + n ≤ room))
