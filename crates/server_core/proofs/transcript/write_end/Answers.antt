use Rattle.std.proofs.Common.{codes, ◌++◌}
use Rattle.std.specs.Fmt.{decimal}
use Rattle.wire_text.proofs.Lemmas.{two_written}
use Rattle.server_core.specs.Transcript.{leave_text}
use Rattle.server_core.proofs.transcript.write_end.Goals as goal

pub returns : goal.returns
returns g c =
    two_written c.write_leave.result _ _ _ (codes "connection " ++ (decimal c.args.number ++ codes " end ")) (leave_text c.args.leave) c.in_ok-write.ensures.bytes c.write_leave.ensures
