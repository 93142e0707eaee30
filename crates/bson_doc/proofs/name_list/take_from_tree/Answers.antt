use Rattle.std.proofs.Common.{rules}
use Rattle.std.proofs.lemmas.Map.Made.{map_same_pairs}
use Rattle.bson_doc.proofs.NameLists.{closed_up, tree_shrinks}
use Rattle.bson_doc.proofs.name_list.take_from_tree.Goals as goal

pub returns : goal.returns
returns c = λ names k d there is same before.
    let kept = map_same_pairs _ (closed_up c.args.index) _ (λ k v b w f' t. search rules) c.remove.new.self.entries c.retain.new.self.entries c.retain.ensures.filtered in
    tree_shrinks names c.args.index k c.args.name.now c.args.tree.now c.remove.new.self c.retain.new.self same d there is before c.remove.ensures.updates kept
