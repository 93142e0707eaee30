use Rattle.file_commands.specs.Json.{MayBeJson, behind_values}
use Rattle.file_commands.proofs.WaitLemmas.{documents_wait}
use Rattle.file_commands.proofs.json.run_json.Goals as goal

pub invariant_of-walk : goal.invariant_of-walk
invariant_of-walk g c = record { waits = documents_wait (MayBeJson c.args.mode c.args.layout) (behind_values c.args.layout) }
