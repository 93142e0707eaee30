use Rattle.std.proofs.Common.{◌≡◌, ◌<◌, Bool, ◌&&◌, sym, ◌∙◌, ap, map, length, List, ℕ, string_bytes, arith}
use Rattle.bson_doc.specs.Codes.{coded_value, coded_values, coded_pairs}
use Rattle.bson_doc.proofs.Equal.{not_same, as_long, one_more, one_other, all_same, in_array, same_names, names_same, as_many_names, same_document_names, same_document_values, differ, stay, in_document, leaves_same, document_same, array_same, scope_same, seen_alike, other_code}
use Rattle.bson_doc.specs.Same.{same, is_same}
use Rattle.bson_elem.specs.declared.kinds.Kind.TheVariants as kinds
use Rattle.bson_elem.specs.{no_code}
use Rattle.bson_raw.specs.Pairs.{TreeValue}
use Rattle.bson_doc.specs.Array.{array_tree}
use Rattle.bson_doc.specs.Bson.{value_of}
use Rattle.bson_doc.specs.Document.{paired, tree_of}
use Rattle.bson_doc.specs.Depths.{tree_depth}
use Rattle.bson_doc.proofs.+same.Goals as goal

pub arrays::ArrayPartialEq::eq-returns-then-len : goal.arrays::ArrayPartialEq::eq-returns-then-len
arrays::ArrayPartialEq::eq-returns-then-len t c =
    not_same coded_values _ _ (λ e. c.if-len.true (c.len.ensures ∙ c.self.inside.values.ok.0 ∙ as_long c.self.inside.values.items c.other.inside.values.items (c.self.view_is ∙ e ∙ sym c.other.view_is) ∙ sym c.other.inside.values.ok.0 ∙ sym c.len-2.ensures))

pub arrays::ArrayPartialEq::eq-loop-i-preserved : goal.arrays::ArrayPartialEq::eq-loop-i-preserved
arrays::ArrayPartialEq::eq-loop-i-preserved t c = one_more c.deref-value-items.result.now c.other.inside.values.items c.loop-i.i c.value-item.result c.index.result.now (omega arith) (omega arith) c.value-item.is c.index.ensures c.loop-i.invariant (sym c.eq.ensures ∙ c.if-not-eq.false)

pub arrays::ArrayPartialEq::eq-returns-then-not-eq : goal.arrays::ArrayPartialEq::eq-returns-then-not-eq
arrays::ArrayPartialEq::eq-returns-then-not-eq t c =
    not_same coded_values _ _
    (λ e. one_other c.deref-value-items.result.now c.other.inside.values.items c.loop-i.i c.value-item.result c.index.result.now (omega arith) (omega arith) c.value-item.is c.index.ensures (sym c.eq.ensures ∙ c.if-not-eq.true) (ap (map value_of) c.deref-value-items.ensures.value ∙ c.self.view_is ∙ e ∙ sym c.other.view_is))

pub arrays::ArrayPartialEq::eq-eq-requires : goal.arrays::ArrayPartialEq::eq-eq-requires
arrays::ArrayPartialEq::eq-eq-requires t c =
    let held = in_array 0 c.loop-i.i c.deref-value-items.result.now c.value-item.result c.loop-i-test.true c.value-item.is in
    let all = ap (map value_of) c.deref-value-items.ensures.value ∙ c.self.view_is in
    let held' = in_array 0 c.loop-i.i c.other.inside.values.items c.index.result.now (omega arith) c.index.ensures in
    let depth = λ (vs : List TreeValue). tree_depth (array_tree 0 vs) in
    (omega (arith, held, held', c.decreases, ap depth all, ap depth c.other.view_is), tt)

pub arrays::ArrayPartialEq::eq-returns : goal.arrays::ArrayPartialEq::eq-returns
arrays::ArrayPartialEq::eq-returns t c =
    let all = all_same c.deref-value-items.result.now c.other.inside.values.items c.loop-i.i c.loop-i-test.false (omega arith) c.loop-i.invariant in
    sym (is_same coded_values _ _ (sym c.self.view_is ∙ sym (ap (map value_of) c.deref-value-items.ensures.value) ∙ all ∙ c.other.view_is))

pub documents::DocumentPartialEq::eq-returns-then-ne : goal.documents::DocumentPartialEq::eq-returns-then-ne
documents::DocumentPartialEq::eq-returns-then-ne t c =
    not_same coded_pairs _ _
    (λ e.
    let all = same_names c.self.inside.names c.other.inside.names (same_document_names c.self.inside.names c.other.inside.names c.self.inside.values.items c.other.inside.values.items c.self.invariant c.other.invariant (c.self.view_is ∙ e ∙ sym c.other.view_is)) in
    differ _ c.ne.result c.if-ne.true c.ne.ensures (rw (c.as_slice.ensures.names, c.as_slice-2.ensures.names) all))

pub documents::DocumentPartialEq::eq-eq-requires : goal.documents::DocumentPartialEq::eq-eq-requires
documents::DocumentPartialEq::eq-eq-requires t c =
    let many = as_many_names c.as_slice.result.now c.as_slice-2.result.now (stay _ c.ne.result c.if-ne.false c.ne.ensures) in
    let short : c.loop-i.i < length c.other.inside.values.items = omega (arith, many, ap length c.as_slice.ensures.names, ap length c.as_slice-2.ensures.names, c.self.invariant, c.other.invariant, ap length c.deref-value-items.ensures.value) in
    let all = ap (λ (vs : List TreeValue). paired (map string_bytes c.self.inside.names) vs) (ap (map value_of) c.deref-value-items.ensures.value) ∙ c.self.view_is in
    let held = in_document c.self.inside.names c.loop-i.i c.deref-value-items.result.now c.value-item.result (c.self.invariant ∙ sym (ap length c.deref-value-items.ensures.value)) c.loop-i-test.true c.value-item.is in
    let held' = in_document c.other.inside.names c.loop-i.i c.other.inside.values.items c.index.result.now c.other.invariant short c.index.ensures in
    let depth = λ (ps : List (List ℕ × TreeValue)). tree_depth (tree_of ps) in
    (omega (arith, held, held', c.decreases, ap depth all, ap depth c.other.view_is), tt)

pub documents::DocumentPartialEq::eq-loop-i-preserved : goal.documents::DocumentPartialEq::eq-loop-i-preserved
documents::DocumentPartialEq::eq-loop-i-preserved t c =
    let many = as_many_names c.as_slice.result.now c.as_slice-2.result.now (stay _ c.ne.result c.if-ne.false c.ne.ensures) in
    let short : c.loop-i.i < length c.other.inside.values.items = omega (arith, many, ap length c.as_slice.ensures.names, ap length c.as_slice-2.ensures.names, c.self.invariant, c.other.invariant, ap length c.deref-value-items.ensures.value) in
    one_more c.deref-value-items.result.now c.other.inside.values.items c.loop-i.i c.value-item.result c.index.result.now (omega arith) short c.value-item.is c.index.ensures c.loop-i.invariant (sym c.eq.ensures ∙ c.if-not-eq.false)

pub documents::DocumentPartialEq::eq-returns-then-not-eq : goal.documents::DocumentPartialEq::eq-returns-then-not-eq
documents::DocumentPartialEq::eq-returns-then-not-eq t c =
    let many = as_many_names c.as_slice.result.now c.as_slice-2.result.now (stay _ c.ne.result c.if-ne.false c.ne.ensures) in
    let short : c.loop-i.i < length c.other.inside.values.items = omega (arith, many, ap length c.as_slice.ensures.names, ap length c.as_slice-2.ensures.names, c.self.invariant, c.other.invariant, ap length c.deref-value-items.ensures.value) in
    not_same coded_pairs _ _
    (λ e. one_other c.deref-value-items.result.now c.other.inside.values.items c.loop-i.i c.value-item.result c.index.result.now (omega arith) short c.value-item.is c.index.ensures (sym c.eq.ensures ∙ c.if-not-eq.true)
    (ap (map value_of) c.deref-value-items.ensures.value ∙ same_document_values c.self.inside.names c.other.inside.names c.self.inside.values.items c.other.inside.values.items c.self.invariant c.other.invariant (c.self.view_is ∙ e ∙ sym c.other.view_is)))

pub documents::DocumentPartialEq::eq-returns : goal.documents::DocumentPartialEq::eq-returns
documents::DocumentPartialEq::eq-returns t c =
    let named = stay _ c.ne.result c.if-ne.false c.ne.ensures in
    let many = as_many_names c.as_slice.result.now c.as_slice-2.result.now named in
    let lengths : length c.deref-value-items.result.now ≡ length c.other.inside.values.items = omega (arith, many, ap length c.as_slice.ensures.names, ap length c.as_slice-2.ensures.names, c.self.invariant, c.other.invariant, ap length c.deref-value-items.ensures.value) in
    let all = sym (ap (map value_of) c.deref-value-items.ensures.value) ∙ all_same c.deref-value-items.result.now c.other.inside.values.items c.loop-i.i c.loop-i-test.false lengths c.loop-i.invariant in
    let keys = rw (c.as_slice.ensures.names, c.as_slice-2.ensures.names) at (names_same c.as_slice.result.now c.as_slice-2.result.now named) in
    sym (is_same coded_pairs _ _ (sym c.self.view_is ∙ (λ i. paired (keys i) (all i)) ∙ c.other.view_is))

pub bson_values::BsonPartialEq::eq-returns-in-Leaf-Leaf : goal.bson_values::BsonPartialEq::eq-returns-in-Leaf-Leaf
bson_values::BsonPartialEq::eq-returns-in-Leaf-Leaf t c = c.eq-in-Leaf-Leaf.ensures ∙ leaves_same c.in-Leaf-Leaf.a c.in-Leaf-Leaf.b (value_of c.args.self.now) (value_of c.args.other.now) c.in-Leaf-Leaf.ensures c.in-Leaf-Leaf.ensures'

pub bson_values::BsonPartialEq::eq-returns-in-Document-Document : goal.bson_values::BsonPartialEq::eq-returns-in-Document-Document
bson_values::BsonPartialEq::eq-returns-in-Document-Document t c =
    seen_alike (value_of c.args.self.now) (value_of c.args.other.now) _ _ c.eq.result c.in-Document-Document.ensures c.in-Document-Document.ensures'
    (c.eq.ensures ∙ document_same kinds.Document no_code c.in-Document-Document.a.now c.in-Document-Document.b.now)

pub bson_values::BsonPartialEq::eq-returns-in-Array-Array : goal.bson_values::BsonPartialEq::eq-returns-in-Array-Array
bson_values::BsonPartialEq::eq-returns-in-Array-Array t c =
    seen_alike (value_of c.args.self.now) (value_of c.args.other.now) _ _ c.eq-in-Array-Array.result c.in-Array-Array.ensures c.in-Array-Array.ensures'
    (c.eq-in-Array-Array.ensures ∙ array_same kinds.Array no_code c.in-Array-Array.a.now c.in-Array-Array.b.now)

pub bson_values::BsonPartialEq::eq-returns-then-eq : goal.bson_values::BsonPartialEq::eq-returns-then-eq
bson_values::BsonPartialEq::eq-returns-then-eq t c =
    let w = c.in-CodeWithScope-CodeWithScope in
    seen_alike (value_of c.args.self.now) (value_of c.args.other.now) _ _ c.eq-then-eq.result w.ensures w.ensures'
    (c.eq-then-eq.ensures ∙ sym (ap (λ (p : Bool). p && same coded_pairs w.scope.now w.other_scope.now) (sym c.eq-in-CodeWithScope-CodeWithScope.ensures ∙ c.if-eq.true)) ∙ scope_same w.code.now w.other_code.now w.scope.now w.other_scope.now)

pub bson_values::BsonPartialEq::eq-returns-else-eq : goal.bson_values::BsonPartialEq::eq-returns-else-eq
bson_values::BsonPartialEq::eq-returns-else-eq t c =
    let w = c.in-CodeWithScope-CodeWithScope in
    seen_alike (value_of c.args.self.now) (value_of c.args.other.now) _ _ c.eq-in-CodeWithScope-CodeWithScope.result w.ensures w.ensures'
    (c.if-eq.false ∙ other_code w.code.now w.other_code.now w.scope.now w.other_scope.now (sym c.eq-in-CodeWithScope-CodeWithScope.ensures ∙ c.if-eq.false))
