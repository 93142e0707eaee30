use Rattle.std.proofs.Common.{◌≡◌, ◌<◌, List, String, ap, arith, length, map, remove, string_bytes, subst, sym, vec_len}
use Rattle.std.specs.declared.alloc.Global.{Global}
use Rattle.bson_doc.specs.declared.name_list.Places.{Places}
use Rattle.bson_doc.specs.NameList.{ArePlaces, IsIndex}
use Rattle.bson_doc.specs.NameSlots.{HasNames}
use Rattle.bson_doc.proofs.NameLists.{still_distinct}
use Rattle.bson_doc.proofs.name_list.NameList.remove.Goals as goal

pub invariant_of-self : goal.invariant_of-self
invariant_of-self c = (
  rw c.remove-name.ensures.items (still_distinct c.self.inside.list.items c.args.index c.self.invariant.0),
  subst (λ (p : Places). ArePlaces p c.remove-name.new.self.items) (sym c.in-InTurn.is) tt,
)

pub invariant_of-self-in-Table : goal.invariant_of-self-in-Table
invariant_of-self-in-Table c =
    let new = c.refill.new.self in (
      rw c.remove-name.ensures.items (still_distinct c.self.inside.list.items c.args.index c.self.invariant.0),
      subst (λ (ks : List (String Global)). HasNames (vec_len new.last) new.last.items new.before.items (length ks) (map string_bytes ks)) c.deref.ensures.value c.refill.ensures,
    )

pub invariant_of-self-2 : goal.invariant_of-self-2
invariant_of-self-2 c =
    let names = c.self.inside.list.items in
    let many_names : length names ≡ length c.args.self.now = ap length c.self.view_is in
    let there : c.args.index < length names = omega (arith, many_names) in
    let before : IsIndex c.in-Tree.tree names = subst (λ (p : Places). ArePlaces p names) c.in-Tree.is c.self.invariant.1 in
    let after : IsIndex c.take_from_tree.new.tree (remove names c.args.index) =
    c.take_from_tree.ensures names c.remove-name.result c.self.invariant.0 there (sym c.remove-name.ensures.value) c.as_str.ensures.value before in (
      rw c.remove-name.ensures.items (still_distinct names c.args.index c.self.invariant.0),
      subst (λ (ks : List (String Global)). IsIndex c.take_from_tree.new.tree ks) (sym c.remove-name.ensures.items) after,
    )
