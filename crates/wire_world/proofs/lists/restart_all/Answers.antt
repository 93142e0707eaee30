use Rattle.std.proofs.Common.{rules}
use Rattle.std.proofs.lemmas.List.Edits.{map_over_more}
use Rattle.wire_model.specs.{restarted}
use Rattle.wire_world.proofs.lists.restart_all.Goals as goal

pub loop-connection-preserved : goal.loop-connection-preserved
loop-connection-preserved c = search (rules, map_over_more restarted)
