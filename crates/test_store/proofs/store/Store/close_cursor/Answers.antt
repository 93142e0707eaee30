use Rattle.std.proofs.Common.{rules, ◌≡◌, ℕ, ℤ, FitsSigned, List, Option, [], get_or, map, ap, sym, subst, to_z, of_z, ◌∙◌}
use Rattle.std.specs.Int.{w64}
use Rattle.std.proofs.lemmas.Int.{to_z-of_z}
use Rattle.bson_doc.specs.declared.bson_values.Bson.{Bson}
use Rattle.bson_doc.specs.Bson.{value_of}
use Rattle.test_store.specs.declared.store.Cursor.{Cursor}
use Rattle.test_store.specs.Held.{closed_at, cursor_of, index_of_value, namespace_buf, namespace_of, with_left}
use Rattle.test_store.specs.Taking.{IsOpenAt}
use Rattle.test_store.proofs.Cursors.{closed, cursor_at, left_set}
use Rattle.test_store.proofs.store.Store.close_cursor.Goals as goal

pub returns-in-Some-clause-cursors : goal.returns-in-Some-clause-cursors
returns-in-Some-clause-cursors c =
    let items = c.args.self.now.cursors.items in
    let i = c.in-Some.index in
    let x = c.index_mut.result.now in
    let at : x ≡ get_or items i x = c.index_mut.ensures.value in
    let n = namespace_of c.args.namespace in
    let id : ℤ = c.in-Int64.id in
    let whole : FitsSigned w64 id = search rules in
    let asked : to_z w64 (of_z w64 id) ≡ id = to_z-of_z w64 id whole in
    let held : IsOpenAt n id items i = subst (λ (z : ℤ). IsOpenAt n z items i) asked c.in-Some.ensures in
    let y : Cursor = record { namespace = x.namespace; left = c.new.result } in
    let none : c.new.result.items ≡ [] = search rules in
    left_set items i x y [] at (ap (λ (l : List Bson). record { namespace = namespace_buf x.namespace; left = map value_of l }) none) ∙ ap (λ (o : Option ℕ). with_left o [] (map cursor_of items)) (sym held.0)
    ∙ sym (closed n _ (map cursor_of items) (cursor_of x) (held.2 ∙ cursor_at items i x held.1 at))
    ∙ ap (λ (v : Bson). closed_at n (index_of_value (value_of v)) (map cursor_of items)) (sym c.in-Int64.is)
