use Rattle.std.proofs.Common.{rules, ◌≡◌, List, Some, None, map, length, ap, sym, ◌∙◌, arith}
use Rattle.test_store.specs.declared.store.Collection.{Collection}
use Rattle.test_store.specs.declared.indexes.Index.{Index}
use Rattle.test_store.specs.Held.{collection_index, collection_of, namespace_of}
use Rattle.test_store.specs.Indexes.{index_view}
use Rattle.test_store.proofs.Places.{indexes_at, inside, no_indexes}
use Rattle.test_store.proofs.store.Store.indexes.Goals as goal

pub returns-in_err-i : goal.returns-in_err-i
returns-in_err-i c =
    let n = namespace_of c.args.namespace in
    let items = c.args.self.now.collections.items in
    let none : c.index_of.result ≡ None = search rules in
    let found : collection_index n (map collection_of items) ≡ None =
    ap (λ (l : List Collection). collection_index n (map collection_of l)) (sym c.deref.ensures.value) ∙ sym c.index_of.ensures ∙ none in
    search (rules, no_indexes n (map collection_of items) found)

pub index-requires : goal.index-requires
index-requires c =
    let n = namespace_of c.args.namespace in
    let some : c.index_of.result ≡ Some c.in_ok-i.i = search rules in
    let found : collection_index n (map collection_of c.deref.result.now) ≡ Some c.in_ok-i.i = sym c.index_of.ensures ∙ some in
    omega (arith, inside n c.deref.result.now c.in_ok-i.i found, ap length c.deref.ensures.value, c.deref.ensures.len, c.args.self.now.collections.ok.0)

pub returns : goal.returns
returns c =
    let n = namespace_of c.args.namespace in
    let items = c.args.self.now.collections.items in
    let some : c.index_of.result ≡ Some c.in_ok-i.i = search rules in
    let found : collection_index n (map collection_of items) ≡ Some c.in_ok-i.i =
    ap (λ (l : List Collection). collection_index n (map collection_of l)) (sym c.deref.ensures.value) ∙ sym c.index_of.ensures ∙ some in
    indexes_at n items c.in_ok-i.i c.index.result.now found c.index.ensures ∙ ap (λ (l : List Index). Some (map index_view l)) (sym c.as_slice.ensures.value)
