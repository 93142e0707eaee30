use Rattle.std.proofs.Common.{◌≡◌, ◌∙◌, sym, None, FitsSigned, w32, to_z-of_z}
use Rattle.wire_peer.specs.CallTables.{bearer}
use Rattle.wire_peer.proofs.TableLaws.{free_at_once, none_told}
use Rattle.wire_peer.proofs.call_table.CallTable.free_id.Goals as goal

pub returns-else-contains_key-clause-free : goal.returns-else-contains_key-clause-free
returns-else-contains_key-clause-free c =
    let fits : FitsSigned w32 c.args.next = c.ranges.next in
    let told = simp to_z-of_z at c.contains_key.ensures in
    let none : bearer c.args.next c.self.inside.calls.entries ≡ None = none_told (bearer c.args.next c.self.inside.calls.entries) (sym told ∙ c.if-contains_key.false) in
    rw (to_z-of_z c.ranges.next, ← c.self.view_is) (free_at_once c.args.next c.self.inside.calls.entries none)
