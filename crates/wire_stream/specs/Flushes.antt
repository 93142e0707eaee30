-- What a flush counts.
use Rattle.std.specs.Prelude.{◌≡◌, ℕ, Result, Ok}
use Rattle.wire_stream.specs.declared.link.LinkFault.{LinkFault}
use Rattle.wire_stream.specs.declared.outlet.Flushed.{Flushed}
use Rattle.wire_stream.specs.declared.outlet.Flushed.TheVariants.{Later}
use Rattle.wire_stream.specs.Links.{Rose}

-- The link's count of waits rose if the flush returned `Later`, and otherwise stayed the same.
abbrev pub FlushesLater : Result Flushed LinkFault → ℕ → ℕ → Type 0
FlushesLater (Ok Later) old new = Rose old new
FlushesLater result old new = new ≡ old
