use Rattle.std.proofs.Common.{length, refl}
use Rattle.bson_doc.proofs.NameLists.{tree_grows}
use Rattle.bson_doc.proofs.name_list.put_into_tree.Goals as goal

pub returns-clause-ok : goal.returns-clause-ok
returns-clause-ok c =
    let names = c.args.names.now in
    tree_grows names c.args.name.now c.in_ok-clone.field-0 c.args.tree.now c.insert.new.self (length names) c.in_ok-clone.ensures.cases refl c.requires.new c.requires.indexed c.in_ok-insert.ensures.updates
