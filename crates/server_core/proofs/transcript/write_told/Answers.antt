use Rattle.wire_peer.specs.{entry_of}
use Rattle.wire_text.proofs.Lemmas.{two_written}
use Rattle.server_core.specs.Transcript.{connection_line, entry_text}
use Rattle.server_core.proofs.transcript.write_told.Goals as goal

pub returns : goal.returns
returns g c =
    two_written c.write_entry.result _ _ _ (connection_line c.args.entry.now.connection) (entry_text (entry_of c.args.entry.now)) c.in_ok-writeln.ensures.bytes c.write_entry.ensures
