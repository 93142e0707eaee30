use Rattle.std.proofs.Common.{rules, ◌≡◌, ℕ, ℤ, FitsSigned, List, Option, get_or, map, ap, sym, subst, to_z, of_z, ◌∙◌}
use Rattle.std.specs.Int.{w64}
use Rattle.std.proofs.lemmas.Int.{to_z-of_z}
use Rattle.std.proofs.Math.Seq.{map-set_same}
use Rattle.bson_doc.specs.declared.bson_values.Bson.{Bson}
use Rattle.bson_raw.specs.{TreeValue}
use Rattle.bson_doc.specs.Bson.{value_of}
use Rattle.doc_stages.specs.{after_batch}
use Rattle.test_store.specs.declared.store.Cursor.{Cursor}
use Rattle.test_store.specs.Held.{cursor_of, id_if_left, namespace_buf, namespace_of, with_left}
use Rattle.test_store.specs.Taking.{IsOpenAt}
use Rattle.test_store.proofs.Cursors.{cursor_at, left_set, set_there}
use Rattle.test_store.proofs.store.Store.next_batch.Goals as goal

pub returns-in_default-next_batch-clause-cursors : goal.returns-in_default-next_batch-clause-cursors
returns-in_default-next_batch-clause-cursors c =
    let items = c.args.self.now.cursors.items in
    let x = c.index_mut.result.now in
    map-set_same cursor_of items c.in-Some.index (record { namespace = x.namespace; left = c.next_batch.new.documents }) x
    (ap (λ (l : List Bson). record { namespace = namespace_buf x.namespace; left = map value_of l }) c.in_default-next_batch.ensures.unchanged ∙ ap cursor_of c.index_mut.ensures.value)

pub returns-clause-cursors : goal.returns-clause-cursors
returns-clause-cursors c =
    let items = c.args.self.now.cursors.items in
    let i = c.in-Some.index in
    let x = c.index_mut.result.now in
    let at : x ≡ get_or items i x = c.index_mut.ensures.value in
    let n = namespace_of c.args.namespace in
    let whole : FitsSigned w64 c.args.id = search rules in
    let asked : to_z w64 (of_z w64 c.args.id) ≡ c.args.id = to_z-of_z w64 c.args.id whole in
    let opened : IsOpenAt n c.args.id items i = subst (λ (z : ℤ). IsOpenAt n z items i) asked c.in-Some.ensures in
    let y : Cursor = record { namespace = x.namespace; left = c.next_batch.new.documents } in
    let rest : map value_of c.next_batch.new.documents.items ≡ after_batch c.args.count (map value_of x.left.items) =
    c.in-Ok.ensures.left in
    let fits : FitsSigned w64 c.id_if_left-id.result = search rules in
    let there : c.index.result.now ≡ y = c.index.ensures ∙ set_there items i y c.index.result.now opened.1 in
    let left : map value_of c.deref.result.now ≡ after_batch c.args.count (map value_of x.left.items) =
    ap (map value_of) c.deref.ensures.value ∙ ap (λ (z : Cursor). map value_of z.left.items) there ∙ rest in
    record {
      cursor = cursor_of x;
      is_open = opened.2 ∙ cursor_at items i x opened.1 at;
      batch_is = c.in-Ok.ensures.taken;
      id_is = to_z-of_z w64 c.id_if_left-id.result fits ∙ c.id_if_left-id.ensures ∙ (λ j. id_if_left (asked j) (left j));
      left = left_set items i x y (after_batch c.args.count (map value_of x.left.items)) at
          (ap (λ (vs : List TreeValue). record { namespace = namespace_buf x.namespace; left = vs }) rest)
          ∙ ap (λ (o : Option ℕ). with_left o (after_batch c.args.count (map value_of x.left.items)) (map cursor_of items)) (sym opened.0);
    }
