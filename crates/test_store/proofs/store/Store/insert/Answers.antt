use Rattle.std.proofs.Common.{◌≡◌, ◌++◌, List, [], ◌∷◌, Some, None, map, length, ap, sym, ◌∙◌, arith}
use Rattle.std.proofs.lemmas.List.{map-append}
use Rattle.std.proofs.Math.Seq.{map-set_same}
use Rattle.bson_doc.specs.declared.bson_values.Bson.{Bson}
use Rattle.bson_raw.specs.{TreeValue}
use Rattle.bson_doc.specs.Bson.{value_of}
use Rattle.test_store.specs.declared.store.Collection.{Collection}
use Rattle.test_store.specs.Held.{collection_index, collection_of, holding, namespace_of}
use Rattle.test_store.specs.Indexes.{IndexView}
use Rattle.test_store.proofs.Places.{inside, longer_collection, new_collection}
use Rattle.test_store.proofs.Sizes.{on_err, on_ok, on_ok_then}
use Rattle.test_store.proofs.store.Store.insert.Goals as goal

pub index_mut-requires : goal.index_mut-requires
index_mut-requires c =
    let n = namespace_of c.args.namespace in
    let found : collection_index n (map collection_of c.deref.result.now) ≡ Some c.in-Some.i = sym c.index_of.ensures ∙ c.in-Some.is in
    omega (arith, inside n c.deref.result.now c.in-Some.i found, ap length c.deref.ensures.value, c.deref.ensures.len, c.args.self.now.collections.ok.0)

pub returns-in-Some-clause-inserted : goal.returns-in-Some-clause-inserted
returns-in-Some-clause-inserted c =
    let n = namespace_of c.args.namespace in
    let items = c.args.self.now.collections.items in
    let x = c.index_mut.result.now in
    let found : collection_index n (map collection_of items) ≡ Some c.in-Some.i =
    ap (λ (l : List Collection). collection_index n (map collection_of l)) (sym c.deref.ensures.value) ∙ sym c.index_of.ensures ∙ c.in-Some.is in
    on_ok c.append-appended.result (λ ok.
    let appended : c.append-appended.new.self.items ≡ x.documents.items ++ c.args.documents.items = rw ok at c.append-appended.ensures.items in
    longer_collection n (map value_of c.args.documents.items) items c.in-Some.i x (record { namespace = x.namespace; indexes = x.indexes; documents = c.append-appended.new.self }) found c.index_mut.ensures.value
    (ap (λ (vs : List TreeValue). holding vs (collection_of x)) (ap (map value_of) appended ∙ map-append value_of x.documents.items c.args.documents.items)))

pub returns-in-Some-clause-unchanged : goal.returns-in-Some-clause-unchanged
returns-in-Some-clause-unchanged c =
    let items = c.args.self.now.collections.items in
    let x = c.index_mut.result.now in
    on_err c.append-appended.result (λ err.
    let kept : c.append-appended.new.self.items ≡ x.documents.items = rw err at c.append-appended.ensures.items in
    map-set_same collection_of items c.in-Some.i (record { namespace = x.namespace; indexes = x.indexes; documents = c.append-appended.new.self }) x
    (ap (λ (l : List Bson). holding (map value_of l) (collection_of x)) kept ∙ ap collection_of c.index_mut.ensures.value))

pub returns-in-Ok-clause-inserted : goal.returns-in-Ok-clause-inserted
returns-in-Ok-clause-inserted c =
    let n = namespace_of c.args.namespace in
    let items = c.args.self.now.collections.items in
    let vs : List TreeValue = map value_of c.args.documents.items in
    let found : collection_index n (map collection_of items) ≡ None =
    ap (λ (l : List Collection). collection_index n (map collection_of l)) (sym c.deref.ensures.value) ∙ sym c.index_of.ensures ∙ c.in-None.is in
    on_ok_then c.push_collection.result (λ is. is
    ∙ ap (λ (is : List IndexView). map collection_of items ++ record { namespace = n; indexes = is; documents = vs } ∷ []) c.in-Ok.ensures
    ∙ sym (new_collection n vs (map collection_of items) found)) c.push_collection.ensures.pushed
