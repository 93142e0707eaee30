use Rattle.std.proofs.Common.{rules}
use Rattle.std.proofs.lemmas.Map.Keys.{IsDistinct-push}
use Rattle.std.specs.String.{string_eq_equiv}
use Rattle.bson_doc.proofs.name_list.NameList.append.Goals as goal

pub invariant_of-self-2 : goal.invariant_of-self-2
invariant_of-self-2 c =
    let absent = c.requires in
    rw (c.in-Ok.ensures.items, c.try_reserve.ensures.items)
    (IsDistinct-push string_eq_equiv c.self.inside.list.items c.args.name c.self.invariant.0 (rw c.self.view_is absent), search rules)
