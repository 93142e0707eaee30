use Rattle.std.proofs.Common.{subst}
use Rattle.wire_peer.specs.CallTables.{HasOneStream}
use Rattle.wire_peer.proofs.TableLaws.{begun_filter}
use Rattle.wire_peer.proofs.call_table.CallTable.len.Goals as goal

pub returns-clause-stream : goal.returns-clause-stream
returns-clause-stream c = subst HasOneStream c.self.view_is (begun_filter c.self.inside.calls.entries c.self.inside.begun c.self.invariant)
