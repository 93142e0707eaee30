use Rattle.std.proofs.Common.{subst, arith}
use Rattle.std.specs.Io.KnownBytes.{Appends}
use Rattle.std.proofs.KnownBytes.{Appends-trans}
use Rattle.wire_peer.specs.{entry_of}
use Rattle.server_core.specs.Transcript.{told_text}
use Rattle.server_core.proofs.Texts.{one_more}
use Rattle.server_core.proofs.transcript.write_entries.Goals as goal

pub loop-entry-preserved : goal.loop-entry-preserved
loop-entry-preserved g c =
    subst (Appends (g.W.Write.contents c.args.out.now) (g.W.Write.contents c.write_told.new.out))
    (one_more told_text entry_of c.args.entries.now c.loop-entry.entry-index c.entry-item.result (omega arith) c.entry-item.is)
    (Appends-trans _ _ _ _ _ c.loop-entry.invariant c.in_ok-write_told.ensures)
