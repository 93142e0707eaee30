use Rattle.std.proofs.Common.{◌≡◌, ◌++◌, ◌∷◌, [], List, Some, None, map, length, refl, ap, sym, ◌∙◌, arith}
use Rattle.bson_doc.specs.declared.bson_values.Bson.{Bson}
use Rattle.bson_doc.specs.Bson.{value_of}
use Rattle.test_store.specs.declared.store.Collection.{Collection}
use Rattle.test_store.specs.Held.{collection_index, collection_of, namespace_of}
use Rattle.test_store.specs.Indexes.{IndexView, index_view}
use Rattle.test_store.proofs.Places.{indexed_collection, inside, none_indexed}
use Rattle.test_store.proofs.Sizes.{on_ok_then}
use Rattle.test_store.proofs.store.Store.put_indexes.Goals as goal

pub index_mut-requires : goal.index_mut-requires
index_mut-requires c =
    let n = namespace_of c.args.namespace in
    let found : collection_index n (map collection_of c.deref.result.now) ≡ Some c.in-Some.i = sym c.index_of.ensures ∙ c.in-Some.is in
    omega (arith, inside n c.deref.result.now c.in-Some.i found, ap length c.deref.ensures.value, c.deref.ensures.len, c.args.self.now.collections.ok.0)

pub returns-in-Some-clause-replaced : goal.returns-in-Some-clause-replaced
returns-in-Some-clause-replaced c =
    let n = namespace_of c.args.namespace in
    let items = c.args.self.now.collections.items in
    let x = c.index_mut.result.now in
    let found : collection_index n (map collection_of items) ≡ Some c.in-Some.i =
    ap (λ (l : List Collection). collection_index n (map collection_of l)) (sym c.deref.ensures.value) ∙ sym c.index_of.ensures ∙ c.in-Some.is in
    let y : Collection = record { namespace = x.namespace; indexes = c.args.indexes; documents = x.documents } in
    indexed_collection n (map index_view c.args.indexes.items) items c.in-Some.i x y found c.index_mut.ensures.value refl

pub returns-in-None-clause-replaced : goal.returns-in-None-clause-replaced
returns-in-None-clause-replaced c =
    let n = namespace_of c.args.namespace in
    let items = c.args.self.now.collections.items in
    let is : List IndexView = map index_view c.args.indexes.items in
    let found : collection_index n (map collection_of items) ≡ None =
    ap (λ (l : List Collection). collection_index n (map collection_of l)) (sym c.deref.ensures.value) ∙ sym c.index_of.ensures ∙ c.in-None.is in
    on_ok_then c.push_collection.result (λ pushed. pushed
    ∙ ap (λ (l : List Bson). map collection_of items ++ record { namespace = n; indexes = is; documents = map value_of l } ∷ []) c.new-documents.ensures.items
    ∙ sym (none_indexed n is (map collection_of items) found)) c.push_collection.ensures.pushed
