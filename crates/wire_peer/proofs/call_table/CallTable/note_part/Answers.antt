use Rattle.std.proofs.Common.{◌≡◌, ◌∙◌, sym, ap, subst, FitsSigned, to_z-of_z, w32}
use Rattle.std.specs.Map.{set_value}
use Rattle.std.specs.Ordering.{int_eq}
use Rattle.wire_peer.specs.Begun.{IsAlone}
use Rattle.wire_peer.specs.CallTables.{Table, after_part}
use Rattle.wire_peer.proofs.TableLaws.{part_begun, insert_present}
use Rattle.wire_peer.proofs.call_table.CallTable.note_part.Goals as goal
use Rattle.wire_peer.proofs.call_table.CallTable.note_part.Goals.{In-Ok}

alone : (c : In-Ok) → IsAlone c.self.inside.calls.entries c.args.id c.args.call
alone c = subst (λ (t : Table). IsAlone t c.args.id c.args.call) (sym c.self.view_is) c.requires

after : (c : In-Ok) → c.insert.new.self.entries ≡ set_value (int_eq c.args.id) c.self.inside.calls.entries (after_part c.args.call c.args.part)
after c =
    let id_fits : FitsSigned w32 c.args.id = c.ranges.id in
    let part_fits : FitsSigned w32 c.args.part = c.ranges.part in
    let told = simp to_z-of_z at c.in-Ok.ensures.entries in
    told ∙ insert_present c.args.id c.args.call (after_part c.args.call c.args.part) c.self.inside.calls.entries (alone c).0

pub invariant_of-self : goal.invariant_of-self
invariant_of-self c =
    rw (to_z-of_z c.ranges.id, after (goal.at.invariant_of-self c).In-Ok) (part_begun c.args.id c.args.call c.args.part c.self.inside.calls.entries (alone (goal.at.invariant_of-self c).In-Ok))

pub returns : goal.returns
returns c = after (goal.at.returns c).In-Ok ∙ ap (λ (t : Table). set_value (int_eq c.args.id) t (after_part c.args.call c.args.part)) c.self.view_is
