use Rattle.std.proofs.Common.{◌∙◌, List, String, ap, map, string_bytes, subst}
use Rattle.std.specs.declared.alloc.Global.{Global}
use Rattle.bson_doc.specs.NameList.{ArePlaces}
use Rattle.bson_doc.proofs.NameLists.{distinct_copied}
use Rattle.bson_doc.proofs.Pairs.{names_copied}
use Rattle.bson_doc.proofs.name_list.NameList.try_clone.Goals as goal

pub copied-requires : goal.copied-requires
copied-requires c = rw c.deref.ensures.value (distinct_copied c.self.inside.list.items c.in_ok-list.list.items c.in_ok-list.ensures.cases.0 c.self.invariant.0)

pub invariant_of-result : goal.invariant_of-result
invariant_of-result c =
    let same = names_copied c.self.inside.list.items c.in_ok-list.list.items c.in_ok-list.ensures.cases.0 in (
      distinct_copied c.self.inside.list.items c.in_ok-list.list.items c.in_ok-list.ensures.cases.0 c.self.invariant.0,
      subst (λ (ks : List (String Global)). ArePlaces c.in_ok-places.places ks) c.deref.ensures.value
          (c.in_ok-places.ensures c.self.inside.list.items (ap (map string_bytes) c.deref.ensures.value ∙ same) c.self.invariant.1),
    )

pub returns : goal.returns
returns c = rw (← c.self.view_is) (names_copied c.self.inside.list.items c.in_ok-list.list.items c.in_ok-list.ensures.cases.0)
