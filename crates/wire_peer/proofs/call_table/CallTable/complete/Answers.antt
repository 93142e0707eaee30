use Rattle.std.proofs.Common.{sym, subst, FitsSigned, w32, to_z-of_z}
use Rattle.wire_peer.specs.Begun.{IsAlone}
use Rattle.wire_peer.specs.CallTables.{Table}
use Rattle.wire_peer.proofs.TableLaws.{without_begun}
use Rattle.wire_peer.proofs.call_table.CallTable.complete.Goals as goal

pub invariant_of-self : goal.invariant_of-self
invariant_of-self c =
    let alone : IsAlone c.self.inside.calls.entries c.args.id c.args.call = subst (λ (t : Table). IsAlone t c.args.id c.args.call) (sym c.self.view_is) c.requires in
    let fits : FitsSigned w32 c.args.id = c.ranges.id in
    let after = simp to_z-of_z at c.take_out.ensures in
    rw after (without_begun c.args.id c.args.call c.self.inside.calls.entries alone)
