use Rattle.std.proofs.Common.{take}
use Rattle.std.specs.Prelude.{flat_map}
use Rattle.std.specs.Io.KnownBytes.{Appends}
use Rattle.wire_peer.specs.{log_of}
use Rattle.server_core.specs.Transcript.{told_text}
use Rattle.server_core.proofs.transcript.write_entries.Given as goal

-- the texts of those before this one were written
abbrev pub invariant-loop-entry : goal.invariant-loop-entry
invariant-loop-entry g l = Appends (g.W.Write.contents l.initial.out) (g.W.Write.contents l.out) (flat_map told_text (log_of (take l.entry-index l.entries)))
