use Rattle.std.proofs.Common.{rules, tests, ◌∙◌, ap, map, not}
use Rattle.std.proofs.lemmas.Fn.{filter_same}
use Rattle.test_store.specs.declared.store.Collection.{Collection}
use Rattle.test_store.specs.Held.{CollectionView, collection_of, is_in_database}
use Rattle.test_store.proofs.Tested.{filter_map}
use Rattle.test_store.proofs.store.Store.drop_database.Goals as goal

pub returns-clause-dropped : goal.returns-clause-dropped
returns-clause-dropped c =
    let kept = λ (x : CollectionView). not (is_in_database c.args.database.now x) in
    ap (map collection_of) (filter_same _ (λ (x : Collection). kept (collection_of x)) _ (λ x b f' k. search (rules, tests)) _ _ c.retain.ensures.filtered)
    ∙ filter_map collection_of kept c.args.self.now.collections.items
