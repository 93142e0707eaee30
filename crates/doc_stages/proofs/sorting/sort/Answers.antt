use Rattle.std.proofs.Common.{◌≡◌, map, is_lt, rules, ap, sym, ◌∙◌}
use Rattle.std.specs.Ordering.{on}
use Rattle.std.proofs.lemmas.Fn.{always_returns_same}
use Rattle.std.proofs.lemmas.List.Sorted.{ranks_by}
use Rattle.bson_doc.specs.Bson.{value_of}
use Rattle.bson_doc.specs.Document.{tree_of}
use Rattle.doc_stages.specs.Sorting.{keys_order}
use Rattle.doc_stages.proofs.SortOrders.{documents_total}
use Rattle.doc_stages.proofs.StableSorts.{sorted-map, sorted_is}
use Rattle.doc_stages.proofs.sorting.sort.Goals as goal

pub returns-clause-sorted : goal.returns-clause-sorted
returns-clause-sorted c =
    let keys = tree_of c.args.keys.now in
    let order = on value_of (keys_order keys) in
    let ranks = ranks_by (documents_total keys) (λ x. x) in
    ap (map value_of) (sorted_is order (documents_total keys) _ _
    (c.in_ok-sort_by.ensures.sorted _ ranks (always_returns_same _ (λ a r. is_lt r ≡ is_lt (order a.0.now a.1.0.now)) _ (λ a r f' k. search rules)))
    (c.sort_by.ensures.stable _ ranks (always_returns_same _ (λ a r. is_lt r ≡ is_lt (order a.0.now a.1.0.now)) _ (λ a r f' k. search rules))))
    ∙ sym (sorted-map (keys_order keys) value_of c.args.documents.now.items)
