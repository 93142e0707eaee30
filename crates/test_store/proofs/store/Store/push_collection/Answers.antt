use Rattle.std.proofs.Common.{◌≡◌, ◌++◌, ◌∷◌, [], map, ap, ◌∙◌}
use Rattle.std.proofs.lemmas.List.{map_push}
use Rattle.bson_doc.specs.Bson.{value_of}
use Rattle.test_store.specs.declared.store.Collection.{Collection}
use Rattle.test_store.specs.Held.{NamespaceView, collection_of}
use Rattle.test_store.specs.Indexes.{index_view}
use Rattle.test_store.proofs.store.Store.push_collection.Goals as goal

pub returns-in_ok-push-in-Ok-clause-pushed : goal.returns-in_ok-push-in-Ok-clause-pushed
returns-in_ok-push-in-Ok-clause-pushed c =
    let items = c.args.self.now.collections.items in
    let new : Collection = record { namespace = c.in-Ok.namespace; indexes = c.args.indexes; documents = c.args.documents } in
    let pushed : c.push.new.self.items ≡ items ++ new ∷ [] = c.in_ok-push-in-Ok.ensures.items in
    ap (map collection_of) pushed ∙ map_push collection_of items new
    ∙ ap (λ (v : NamespaceView). map collection_of items ++ record { namespace = v; indexes = map index_view c.args.indexes.items; documents = map value_of c.args.documents.items } ∷ []) c.in-Ok.ensures
