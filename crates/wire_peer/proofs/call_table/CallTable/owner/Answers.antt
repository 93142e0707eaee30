use Rattle.std.proofs.Common.{◌∙◌, sym, ap, subst, ℤ, Option, Some, FitsSigned, w32, to_z-of_z, rules}
use Rattle.wire_peer.specs.declared.call_table.Outstanding.{Outstanding}
use Rattle.wire_peer.specs.Begun.{IsBegun, NoneBegun}
use Rattle.wire_peer.specs.CallTables.{Table, owner_by}
use Rattle.wire_peer.proofs.TableLaws.{one_bearer, one_stream, none_stream}
use Rattle.wire_peer.proofs.call_table.CallTable.owner.Goals as goal

pub returns-in-Some-clause-owner : goal.returns-in-Some-clause-owner
returns-in-Some-clause-owner c =
    let begun : IsBegun c.args.self.now (Some c.in-Some.id) = subst (λ (t : Table). IsBegun t (Some c.in-Some.id)) c.self.view_is (subst (IsBegun c.self.inside.calls.entries) c.in-Some.is c.self.invariant) in
    let id_fits : FitsSigned w32 c.in-Some.id = search rules in
    let to_fits : FitsSigned w32 c.args.to = c.ranges.to in
    let told = simp to_z-of_z at c.stream_owner.ensures.owner in
    told begun.0 (one_bearer c.in-Some.id begun.0 c.args.self.now begun.3)
    ∙ ap (λ (s : Option (ℤ × Outstanding)). owner_by s c.args.self.now c.args.to) (sym (one_stream c.in-Some.id begun.0 begun.1 c.args.self.now begun.2 begun.3))

pub returns-in-None-clause-owner : goal.returns-in-None-clause-owner
returns-in-None-clause-owner c =
    let begun : NoneBegun c.args.self.now = subst NoneBegun c.self.view_is (subst (IsBegun c.self.inside.calls.entries) c.in-None.is c.self.invariant) in
    let to_fits : FitsSigned w32 c.args.to = c.ranges.to in
    let told = simp to_z-of_z at c.bearer_owner.ensures.owner in
    told ∙ ap (λ (s : Option (ℤ × Outstanding)). owner_by s c.args.self.now c.args.to) (sym (none_stream c.args.self.now begun))
