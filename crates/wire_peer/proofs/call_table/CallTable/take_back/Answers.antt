use Rattle.std.proofs.Common.{◌≡◌, ◌∙◌, ◌++◌, sym, subst, ℤ, ◌∷◌, [], IsSome, ap, length, length-append, arith}
use Rattle.wire_peer.specs.CallTables.{Table}
use Rattle.wire_peer.specs.declared.call_table.Outstanding.{Outstanding}
use Rattle.wire_peer.specs.Begun.{IsBegun}
use Rattle.wire_peer.proofs.TableLaws.{popped, begun_pop}
use Rattle.wire_peer.proofs.call_table.CallTable.take_back.Goals as goal

pub invariant_of-self : goal.invariant_of-self
invariant_of-self c =
    let before : Table = c.requires.0 in
    let last : ℤ × Outstanding = c.requires.1 in
    let old : c.self.inside.calls.entries ≡ before ++ last ∷ [] = c.self.view_is ∙ c.requires.3 in
    let some : IsSome c.pop.result = c.pop.ensures.found.1 (omega (arith, ap length old, length-append before (last ∷ []))) in
    let same : c.pop.new.self.entries ≡ before = popped c.pop.result before c.pop.new.self.entries last some (sym c.requires.3 ∙ sym c.self.view_is ∙ c.pop.ensures.entries) in
    rw same (begun_pop before last c.self.inside.begun c.requires.2 (subst (λ (t : Table). IsBegun t c.self.inside.begun) old c.self.invariant))
