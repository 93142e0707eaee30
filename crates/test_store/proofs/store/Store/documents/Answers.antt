use Rattle.std.proofs.Common.{◌≡◌, List, Some, None, map, length, ap, sym, ◌∙◌, arith}
use Rattle.bson_doc.specs.Bson.{value_of}
use Rattle.test_store.specs.declared.store.Collection.{Collection}
use Rattle.test_store.specs.Held.{collection_index, collection_of, namespace_of}
use Rattle.test_store.proofs.Places.{documents_at, inside, no_documents}
use Rattle.test_store.proofs.store.Store.documents.Goals as goal

pub index-requires : goal.index-requires
index-requires c =
    let n = namespace_of c.args.namespace in
    let found : collection_index n (map collection_of c.deref.result.now) ≡ Some c.in-Some.i = sym c.index_of.ensures ∙ c.in-Some.is in
    omega (arith, inside n c.deref.result.now c.in-Some.i found, ap length c.deref.ensures.value, c.deref.ensures.len, c.args.self.now.collections.ok.0)

pub returns-in-Some : goal.returns-in-Some
returns-in-Some c =
    let n = namespace_of c.args.namespace in
    let items = c.args.self.now.collections.items in
    let found : collection_index n (map collection_of items) ≡ Some c.in-Some.i =
    ap (λ (l : List Collection). collection_index n (map collection_of l)) (sym c.deref.ensures.value) ∙ sym c.index_of.ensures ∙ c.in-Some.is in
    ap (map value_of) c.deref-in-Some.ensures.value ∙ sym (documents_at n items c.in-Some.i c.index.result.now found c.index.ensures)

pub returns-in-None : goal.returns-in-None
returns-in-None c =
    let n = namespace_of c.args.namespace in
    let items = c.args.self.now.collections.items in
    let found : collection_index n (map collection_of items) ≡ None =
    ap (λ (l : List Collection). collection_index n (map collection_of l)) (sym c.deref.ensures.value) ∙ sym c.index_of.ensures ∙ c.in-None.is in
    sym (no_documents n (map collection_of items) found)
