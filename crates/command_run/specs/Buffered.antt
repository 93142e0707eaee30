-- What a buffered writer holds.
use Rattle.std.specs.Prelude.{ℕ, List, Option}
use Rattle.std.specs.Io.KnownBytes.{append_known}
use Rattle.command_run.specs.declared.buffered.Buffered.{Buffered}

-- the inner writer's bytes and then the buffer, where those are known
abbrev pub buffered_contents : {W : Type 0} → (W → Option (List ℕ)) → Buffered W → Option (List ℕ)
buffered_contents contents b = append_known (contents b.inner) b.buffer.items
