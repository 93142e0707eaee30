use Rattle.std.proofs.Common.{◌≡◌, ◌+◌, ◌≤◌, ◌<◌, ◌++◌, ℕ, List, length, sym, ap, ◌∙◌, append_assoc, arith, vec_len, rules, subst, OnSome}
use Rattle.std.proofs.lemmas.Grind.{not_there}
use Rattle.bson_elem.specs.Trees.{Tree}
use Rattle.bson_elem.specs.Kinds.{byte_of}
use Rattle.bson_elem.specs.Spelling.{cstring, string, elements}
use Rattle.bson_raw.specs.Pairs.{names_of}
use Rattle.bson_raw.proofs.Lemmas.{count_fits, length-names_of-le, names_of-with_first}
use Rattle.bson_raw.specs.Naming.{name_at}
use Rattle.bson_doc.specs.Plain.{plain_from}
use Rattle.bson_doc.specs.Values.{plain_value, value_kind, value_bytes, element_bytes}
use Rattle.bson_doc.proofs.Values.{elements-first, kind_shown, four_more, no_fewer, one_element}
use Rattle.bson_doc.proofs.element.+write.Goals as goal

pub write_document-overflow_add-index : goal.write_document-overflow_add-index
write_document-overflow_add-index t c =
    count_fits (c.loop-name.index + 1) c.args.document.bytes.now c.args.document.spelled (λ whole spelled.
    let left = c.loop-name.invariant.3 whole spelled in
    let first = c.in-Some.ensures.steps.1.0 left.0 left.2 in
    let names = ap names_of first.is_first ∙ names_of-with_first c.in-Some.name.now first.tree_value first.others in
    omega (arith, length-names_of-le whole, left.5, ap length names))

pub write_document-loop-name-preserved : goal.write_document-loop-name-preserved
write_document-loop-name-preserved t c = (
  tt,
  tt,
  c.in-Some.ensures.steps.0 ∙ c.loop-name.invariant.2,
  λ whole spelled.
      let left = c.loop-name.invariant.3 whole spelled in
      let first = c.in-Some.ensures.steps.1.0 left.0 left.2 in
      let names = ap names_of first.is_first ∙ names_of-with_first c.in-Some.name.now first.tree_value first.others in
      let this : List ℕ = element_bytes (name_at c.args.in_array c.loop-name.index c.in-Some.name.now) (plain_value first.tree_value) in
      let others : List ℕ = elements (plain_from c.args.in_array (c.loop-name.index + 1) first.others) in (
        first.others,
        left.1 ++ this,
        first.left,
        c.in_ok-write_element.ensures.added first.tree_value first.shown ∙ ap (λ (x : List ℕ). x ++ this) left.3 ∙ append_assoc c.begin.new.out.items left.1 this,
        left.4 ∙ ap (λ (x : List ℕ). left.1 ++ x) (ap (λ (x : Tree). elements (plain_from c.args.in_array c.loop-name.index x)) first.is_first ∙ elements-first c.args.in_array c.loop-name.index c.in-Some.name.now first.tree_value first.others) ∙ sym (append_assoc left.1 this others),
        omega (arith, left.5, ap length names),
      ),
)

pub write_document-finish-requires-clause-begun : goal.write_document-finish-requires-clause-begun
write_document-finish-requires-clause-begun t c =
    let no : vec_len c.loop-name.out < c.len-start.result + 4 → ⊥ = λ lt. not_there c.args.document.spelled (λ s.
    let left = c.loop-name.invariant.3 s.0 s.1 in
    let more : length c.args.out.now.items + 4 ≤ length c.loop-name.out.items = four_more c.args.out.now.items c.begin.new.out.items c.loop-name.out.items left.1 c.in_ok-begin.ensures.added left.3 in
    let l : length c.loop-name.out.items ≡ vec_len c.loop-name.out = search rules in
    let k : length c.args.out.now.items ≡ c.len-start.result = search rules in
    omega (arith, lt, more, l, k)) in
    omega (arith, no)

pub write_scope-put_len-requires-clause-begun : goal.write_scope-put_len-requires-clause-begun
write_scope-put_len-requires-clause-begun t c =
    let no : vec_len c.write_document.new.out < c.len-start.result + 4 → ⊥ = λ lt. not_there c.args.scope.spelled (λ s.
    let more : length c.args.out.now.items + 4 ≤ length c.write_string.new.out.items = four_more c.args.out.now.items c.begin.new.out.items c.write_string.new.out.items (string c.args.code.now) c.in_ok-begin.ensures.added c.in_ok-write_string.ensures.added in
    let still : length c.write_string.new.out.items ≤ length c.write_document.new.out.items = no_fewer c.write_string.new.out.items c.write_document.new.out.items _ (c.in_ok-write_document.ensures.added s.0 s.1) in
    let l : length c.write_document.new.out.items ≡ vec_len c.write_document.new.out = search rules in
    let k : length c.args.out.now.items ≡ c.len-start.result = search rules in
    omega (arith, lt, more, still, l, k)) in
    omega (arith, no)

pub write_element-returns : goal.write_element-returns
write_element-returns t c = record {
  added = λ v shown.
      let kind : byte_of c.kind.result ≡ byte_of (value_kind (plain_value v)) = ap byte_of (c.kind.ensures ∙ kind_shown c.args.value v shown) in
      let name : List ℕ = cstring (name_at c.args.in_array c.args.index c.args.name.now) in
      subst (λ (x : List ℕ). OnSome c.write_value.result (c.write_value.new.out.items ≡ x))
      (one_element c.args.out.now.items c.write_head.new.out.items (byte_of c.kind.result) (byte_of (value_kind (plain_value v))) name (value_bytes (plain_value v)) kind c.in_ok-write_head.ensures.added)
      (c.write_value.ensures.added v shown);
}
