use Rattle.std.proofs.Common.{◌≡◌, ◌∙◌, ◌++◌, ◌∷◌, [], sym, ap, refl, subst, None, FitsSigned, w32, to_z-of_z}
use Rattle.wire_peer.specs.declared.call_table.Outstanding.{Outstanding}
use Rattle.wire_peer.specs.CallTables.{Table, bearer}
use Rattle.wire_peer.proofs.TableLaws.{begun_push, insert_absent}
use Rattle.wire_peer.proofs.call_table.CallTable.push.Goals as goal
use Rattle.wire_peer.proofs.call_table.CallTable.push.Goals.{In_ok-insert}

abbrev fresh : (c : In_ok-insert) → Outstanding
fresh c = record { call = c.args.call; kind = c.args.kind; last = None }

after : (c : In_ok-insert) → c.insert.new.self.entries ≡ c.self.inside.calls.entries ++ (c.args.id, fresh c) ∷ []
after c =
    let fits : FitsSigned w32 c.args.id = c.ranges.id in
    let told = simp to_z-of_z at c.in_ok-insert.ensures.entries in
    told ∙ insert_absent c.args.id (fresh c) c.self.inside.calls.entries (subst (λ (t : Table). bearer c.args.id t ≡ None) (sym c.self.view_is) c.requires)

pub invariant_of-self-2 : goal.invariant_of-self-2
invariant_of-self-2 c = rw (after c) (begun_push c.self.inside.calls.entries (c.args.id, fresh c) c.self.inside.begun refl c.self.invariant)

pub returns-clause-pushed : goal.returns-clause-pushed
returns-clause-pushed c = after c ∙ ap (λ (t : Table). t ++ (c.args.id, fresh c) ∷ []) c.self.view_is
