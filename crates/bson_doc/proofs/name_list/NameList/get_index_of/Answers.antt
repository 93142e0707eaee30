use Rattle.std.proofs.Common.{rules, ◌≡◌, ◌∙◌, ap}
use Rattle.std.specs.Prelude.{is_some}
use Rattle.bson_doc.specs.NameList.{index_of}
use Rattle.bson_doc.proofs.NameLists.{any_found}
use Rattle.bson_doc.proofs.name_list.NameList.get_index_of.Goals as goal

pub returns-clause-found : goal.returns-clause-found
returns-clause-found c =
    let index : c.index_by.result ≡ index_of c.args.name.now c.args.self.now = search rules in
    ap is_some index ∙ any_found c.args.name.now c.args.self.now
