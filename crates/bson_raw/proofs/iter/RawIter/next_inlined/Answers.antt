use Rattle.std.proofs.Common.{◌≡◌, ◌-◌, length, refl, arith}
use mathlib.Core.Logic.{∥∥₁_map}
use Rattle.bson_elem.specs.Trees.{Tree}
use Rattle.bson_elem.specs.Items.{element_view}
use Rattle.bson_raw.specs.Left.{LeftIs}
use Rattle.bson_raw.specs.Pairs.{TreeValue, with_first}
use Rattle.bson_raw.specs.Held.{IsItemOf}
use Rattle.bson_raw.proofs.Items.{is_item_of, all_spelled}
use Rattle.bson_raw.proofs.Values.{held_short_of}
use Rattle.bson_raw.proofs.Walks.{IsRead, step, can_read, none_left}
use Rattle.bson_raw.proofs.iter.RawIter.next_inlined.Goals as goal
use Rattle.bson_raw.proofs.iter.RawIter.next_inlined.Goals.{After-reread_element-element}

pub returns-then-self-end-clause-steps : goal.returns-then-self-end-clause-steps
returns-then-self-end-clause-steps c = (refl, λ t left. none_left c.args.self.now.bytes.now c.args.self.now.offset t c.if-self-end.true left, λ none. refl)

pub reread_element-element-requires-clause-checked : goal.reread_element-element-requires-clause-checked
reread_element-element-requires-clause-checked c = can_read c.args.self.now.bytes.now c.args.self.now.offset c.args.self.now.left c.if-self-end.false

-- what the element that was read is of every tree that is left
first : (c : After-reread_element-element) → (t : Tree) → LeftIs c.args.self.now.bytes.now c.args.self.now.offset t → (v : TreeValue) × (ps : Tree) × (t ≡ with_first c.reread_element-element.result.name.now v ps) × IsItemOf c.reread_element-element.result.value v × LeftIs c.args.self.now.bytes.now c.reread_element-element.result.next ps
first c t left =
    let bytes = c.args.self.now.bytes.now in
    let is : IsRead bytes c.args.self.now.offset (element_view bytes (length bytes - 1) c.reread_element-element.result) c.reread_element-element.result.next = record { before = c.if-self-end.false; read = c.reread_element-element.ensures.read; rest = refl } in
    let s = step bytes c.args.self.now.offset (element_view bytes (length bytes - 1) c.reread_element-element.result) c.reread_element-element.result.next is t left in
    (s.0, s.1, s.2, is_item_of c.reread_element-element.result.value c.reread_element-element.result.next s.0 c.reread_element-element.ensures.lent s.3, s.4)

pub of_item-requires : goal.of_item-requires
of_item-requires c = all_spelled c.reread_element-element.result.value (∥∥₁_map c.args.self.now.left (λ h. let f = first (goal.at.of_item-requires c).After-reread_element-element h.2.0 h.2.1 in (f.0, f.3)))

pub invariant_of-self : goal.invariant_of-self
invariant_of-self c = record { left = ∥∥₁_map c.args.self.now.left (λ h. let f = first c h.2.0 h.2.1 in (omega (arith, c.reread_element-element.ensures.next, h.0), h.1, (f.1, f.4))) }

pub returns-clause-steps : goal.returns-clause-steps
returns-clause-steps c =
    let at = (goal.at.returns-clause-steps c).After-reread_element-element in (
      refl,
      (
        λ t left. let f = first at t left in record { tree_value = f.0; others = f.1; is_first = f.2; shown = c.of_item.ensures f.0 f.3; left = f.4 },
        held_short_of c.args.self.now.bytes.now c.args.self.now.offset c.of_item.result c.args.self.now.left (λ t left. let f = first at t left in (c.reread_element-element.result.name.now, f.0, f.1, f.2, c.of_item.ensures f.0 f.3)),
      ),
      λ none. absurd cc,
    )
