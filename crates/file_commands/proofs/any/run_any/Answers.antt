use Rattle.file_commands.proofs.WaitLemmas.{frames_wait}
use Rattle.file_commands.proofs.any.run_any.Goals as goal

pub invariant_of-walk : goal.invariant_of-walk
invariant_of-walk g c = record { waits = frames_wait }
