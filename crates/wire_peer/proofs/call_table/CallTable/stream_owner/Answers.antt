use Rattle.std.proofs.Common.{◌≡◌, ◌∙◌, sym, subst, inr, Some, None, FitsSigned, w32, to_z-of_z}
use Rattle.wire_peer.specs.declared.call_table.Outstanding.{Outstanding}
use Rattle.wire_peer.specs.Begun.{OneBegun}
use Rattle.wire_peer.specs.CallTables.{Table, bearer}
use Rattle.wire_peer.proofs.TableLaws.{one_bearer, none_of_some, some_inside}
use Rattle.wire_peer.proofs.call_table.CallTable.stream_owner.Goals as goal

pub unreachable-requires : goal.unreachable-requires
unreachable-requires c =
    let fits : FitsSigned w32 c.args.id = c.ranges.id in
    let read = simp to_z-of_z at c.in_default.ensures.value in
    let none : bearer c.args.id c.args.self.now ≡ None = subst (λ (t : Table). bearer c.args.id t ≡ None) c.self.view_is (sym read) in
    none_of_some (bearer c.args.id c.args.self.now) c.requires.0 none (one_bearer c.args.id c.requires.0 c.args.self.now c.requires.3)

pub returns-then-eq-clause-alone : goal.returns-then-eq-clause-alone
returns-then-eq-clause-alone c =
    let fits : FitsSigned w32 c.args.id = c.ranges.id in
    let read = simp to_z-of_z at c.in-Some.ensures.value in
    let is : bearer c.args.id c.args.self.now ≡ Some c.in-Some.call.now = subst (λ (t : Table). bearer c.args.id t ≡ Some c.in-Some.call.now) c.self.view_is (sym read) in
    let same : c.requires.0 ≡ c.in-Some.call.now = some_inside c.requires.0 c.in-Some.call.now (sym (one_bearer c.args.id c.requires.0 c.args.self.now c.requires.3) ∙ is) in
    rw (to_z-of_z c.ranges.id) (is, inr (subst (λ (o : Outstanding). OneBegun c.args.id o c.args.self.now) same c.requires.3))
