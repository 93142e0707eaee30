-- What a pull found.
use Rattle.std.specs.Prelude.{◌≡◌, ◌≢◌, ℕ, List, [], Result, Ok, Err}
use Rattle.wire_stream.specs.declared.link.LinkFault.{LinkFault}
use Rattle.wire_stream.specs.declared.inlet.Pulled.{Pulled}
use Rattle.wire_stream.specs.declared.inlet.Pulled.TheVariants.{Bytes, End, Later}
use Rattle.wire_stream.specs.Links.{Rose}

-- After a pull with this result the inlet holds these bytes. With `Bytes` it holds some. With `End`
-- it holds none, and the link's count of ends rose; otherwise that count stayed the same. With
-- `Later` it holds none.
abbrev pub IsPulled : Result Pulled LinkFault → List ℕ → ℕ → ℕ → Type 0
IsPulled (Ok Bytes) held old new = (held ≢ []) × (new ≡ old)
IsPulled (Ok End) held old new = (held ≡ []) × Rose old new
IsPulled (Ok Later) held old new = (held ≡ []) × (new ≡ old)
IsPulled (Err fault) held old new = new ≡ old

-- The link's count of waits rose if the pull returned `Later`, and otherwise stayed the same.
abbrev pub PullsLater : Result Pulled LinkFault → ℕ → ℕ → Type 0
PullsLater (Ok Later) old new = Rose old new
PullsLater result old new = new ≡ old
