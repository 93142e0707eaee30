use Rattle.std.proofs.Common.{◌≡◌, List, Some, None, map, length, refl, ap, sym, ◌∙◌, arith}
use Rattle.test_store.specs.declared.store.Collection.{Collection}
use Rattle.test_store.specs.Held.{collection_index, collection_of, namespace_of}
use Rattle.test_store.proofs.Places.{inside, no_collection, removed_collection}
use Rattle.test_store.proofs.store.Store.drop_collection.Goals as goal

pub remove-requires : goal.remove-requires
remove-requires c =
    let n = namespace_of c.args.namespace in
    let found : collection_index n (map collection_of c.deref.result.now) ≡ Some c.in-Some.i = sym c.index_of.ensures ∙ c.in-Some.is in
    omega (arith, inside n c.deref.result.now c.in-Some.i found, ap length c.deref.ensures.value, c.deref.ensures.len, c.args.self.now.collections.ok.0)

pub returns-in-Some-clause-dropped : goal.returns-in-Some-clause-dropped
returns-in-Some-clause-dropped c =
    let n = namespace_of c.args.namespace in
    let items = c.args.self.now.collections.items in
    let found : collection_index n (map collection_of items) ≡ Some c.in-Some.i =
    ap (λ (l : List Collection). collection_index n (map collection_of l)) (sym c.deref.ensures.value) ∙ sym c.index_of.ensures ∙ c.in-Some.is in
    removed_collection n items c.in-Some.i found ∙ ap (λ (l : List Collection). Some (map collection_of l)) (sym c.remove.ensures.items)

pub returns-in-None-clause-none : goal.returns-in-None-clause-none
returns-in-None-clause-none c =
    let n = namespace_of c.args.namespace in
    let items = c.args.self.now.collections.items in
    let found : collection_index n (map collection_of items) ≡ None =
    ap (λ (l : List Collection). collection_index n (map collection_of l)) (sym c.deref.ensures.value) ∙ sym c.index_of.ensures ∙ c.in-None.is in
    (refl, no_collection n (map collection_of items) found)
