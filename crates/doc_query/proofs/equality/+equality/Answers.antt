use Rattle.std.proofs.Common.{Bool, ◌&&◌, List, map, ap, sym, ◌∙◌, arith}
use Rattle.bson_elem.specs.declared.kinds.Kind.TheVariants as kinds
use Rattle.bson_elem.specs.{no_code}
use Rattle.bson_raw.specs.{TreeValue, document_value}
use Rattle.bson_doc.specs.Array.{array_tree}
use Rattle.bson_doc.specs.Bson.{value_of}
use Rattle.bson_doc.specs.declared.bson_values.Bson.{Bson}
use Rattle.bson_doc.specs.Depths.{tree_depth}
use Rattle.bson_doc.specs.Document.{tree_of}
use Rattle.doc_query.specs.Equality.{equal, equal_each}
use Rattle.doc_query.proofs.Depths.{element_depth}
use Rattle.doc_query.proofs.EqualValues.{equal_named, unlike_lengths}
use Rattle.doc_query.proofs.HeldDecimals.{values_depth}
use Rattle.doc_query.proofs.equality.+equality.Goals as goal

pub are_equal-returns-then-own-other : goal.are_equal-returns-then-own-other
are_equal-returns-then-own-other t c = sym (unlike_lengths c.args.own.now c.args.other.now c.if-own-other.true)

pub are_equal-is_equal-requires : goal.are_equal-is_equal-requires
are_equal-is_equal-requires t c =
    (omega (arith, element_depth 0 c.loop-i.i c.args.own.now c.index-own-i.result c.loop-i-test.true c.index-own-i.is), tt)

pub is_equal_document-are_equal-requires : goal.is_equal_document-are_equal-requires
is_equal_document-are_equal-requires t c =
    (omega (arith, ap (λ (vs : List TreeValue). tree_depth (array_tree 0 vs)) c.values.ensures, values_depth 0 c.args.own.now), tt)

pub is_equal_document-returns-then-eq : goal.is_equal_document-returns-then-eq
is_equal_document-returns-then-eq t c =
    let own = c.args.own.now in
    let other = c.in-Document.other in
    c.are_equal.ensures
    ∙ (λ j. equal_each (c.values.ensures j) (c.values-then-eq.ensures j))
    ∙ ap (λ (b : Bool). b && equal_each (map (λ p. p.1) own) (map (λ p. p.1) other)) (sym c.if-eq.true ∙ c.eq.ensures)
    ∙ sym (equal_named own other c.keys.result.now c.keys-in-Document.result.now c.keys.ensures c.keys-in-Document.ensures)
    ∙ ap (λ (b : Bson). equal (document_value kinds.Document no_code (tree_of own)) (value_of b)) (sym c.in-Document.is)

pub is_equal_document-returns-else-eq : goal.is_equal_document-returns-else-eq
is_equal_document-returns-else-eq t c =
    let own = c.args.own.now in
    let other = c.in-Document.other in
    c.if-eq.false
    ∙ ap (λ (b : Bool). b && equal_each (map (λ p. p.1) own) (map (λ p. p.1) other)) (sym c.if-eq.false ∙ c.eq.ensures)
    ∙ sym (equal_named own other c.keys.result.now c.keys-in-Document.result.now c.keys.ensures c.keys-in-Document.ensures)
    ∙ ap (λ (b : Bson). equal (document_value kinds.Document no_code (tree_of own)) (value_of b)) (sym c.in-Document.is)
