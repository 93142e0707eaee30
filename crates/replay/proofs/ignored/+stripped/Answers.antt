use Rattle.std.proofs.Common.{List, [], ℕ, Bor, ap, map, sym, ◌∙◌, arith}
use Rattle.bson_elem.specs.declared.kinds.Kind.TheVariants as kinds
use Rattle.bson_elem.specs.{no_code}
use Rattle.bson_raw.specs.{TreeValue, document_value}
use Rattle.bson_doc.specs.declared.bson_values.Bson.{Bson}
use Rattle.bson_doc.specs.Array.{array_tree}
use Rattle.bson_doc.specs.Bson.{value_of}
use Rattle.bson_doc.specs.Document.{tree_of}
use Rattle.replay.specs.Stripped.{stripped_value}
use Rattle.replay.proofs.Stripping.{Fields, apart_from_none, element_depth, put_stripped, put_stripped_is, stripped_array, stripped_is}
use Rattle.replay.proofs.ignored.+stripped.Goals as goal

pub strip_fields-returns : goal.strip_fields-returns
strip_fields-returns t c = λ none.
    let names : List (List ℕ) = map (λ (n : Bor (List ℕ)). n.now) c.args.names.now in
    let document = c.args.document.now in
    ap tree_of (sym (ap (λ (l : Fields). put_stripped names document l) (sym none) ∙ c.loop-name.invariant.put ∙ ap (λ (l : Fields). put_stripped names l c.loop-name.left) c.in-None.ensures.steps.0)
    ∙ put_stripped_is names document [] c.iter-name-items.ensures.distinct (apart_from_none document))
    ∙ sym (stripped_is names document)

pub stripped_value-returns-in_ok-values-in-Array :
    goal.stripped_value-returns-in_ok-values-in-Array
stripped_value-returns-in_ok-values-in-Array t c =
    let names : List (List ℕ) = map (λ (n : Bor (List ℕ)). n.now) c.args.names.now in
    ap (λ (vs : List TreeValue). document_value kinds.Array no_code (array_tree 0 vs))
    (c.from_vec.ensures ∙ c.in_ok-values-in-Array.ensures ∙ ap (map (stripped_value names)) c.as_slice.ensures)
    ∙ ap (document_value kinds.Array no_code) (sym (stripped_array names 0 c.in-Array.array))
    ∙ ap (λ (v : Bson). stripped_value names (value_of v)) (sym c.in-Array.is)

pub strip_values-stripped_value-requires : goal.strip_values-stripped_value-requires
strip_values-stripped_value-requires t c =
    (omega (arith, element_depth 0 c.loop-value.value-index c.args.values.now c.value-item.result c.loop-value-test.true c.value-item.is), tt)
