use Rattle.std.proofs.Common.{◌∙◌, sym, ap, map, string_bytes, length-append, ◌∷◌, [], ℕ, ◌+◌}
use Rattle.std.proofs.lemmas.List.{map-append, length-map}
use Rattle.std.proofs.lemmas.Result.{err_from_is_err_and}
use Rattle.bson_doc.specs.Bson.{value_of}
use Rattle.bson_doc.proofs.Names.{among_keys}
use Rattle.bson_doc.proofs.Reading.{document_more, array_more, document_done, array_done, document_name_refused, document_value_refused}
use Rattle.bson_doc.proofs.from_raw.+read.Goals as goal

pub read_values-loop-value-preserved : goal.read_values-loop-value-preserved
read_values-loop-value-preserved t c = record {
  can_next = tt;
  is_finite = tt;
  walked = c.in-Some.ensures.steps.0 ∙ c.loop-value.invariant.walked;
  so_far = λ whole spelled.
      let before = c.loop-value.invariant.so_far whole spelled in
      let first = (c.in-Some.ensures.steps.1.0 before.rest before.left).1 in
      let v = first.tree_value in
      rw (c.in_ok-push.ensures.items, map-append value_of)
      (array_more c.args.depth whole (map value_of c.loop-value.values.items) _ _ before _ v (value_of c.in_ok-read_value.field-0) first.others first.is_first first.left (c.in_ok-read_value.ensures.unique v first.shown) (c.in_ok-read_value.ensures.read v first.shown));
}

pub read_values-returns-clause-read : goal.read_values-returns-clause-read
read_values-returns-clause-read t c = λ whole spelled.
    let before = c.loop-value.invariant.so_far whole spelled in
    (array_done c.args.depth whole _ _ before (c.in-None.ensures.steps.1 before.rest before.left)).0

pub read_pairs-returns-then-contains-clause-refused :
    goal.read_pairs-returns-then-contains-clause-refused
read_pairs-returns-then-contains-clause-refused t c = λ whole spelled.
    let before = c.loop-name.invariant.so_far whole spelled in
    let first = c.in-Some.ensures.steps.1.0 before.rest before.left in
    let there = sym (among_keys c.in-Some.name.now c.loop-name.names) ∙ sym c.contains.ensures ∙ c.if-contains.true in
    document_name_refused c.args.depth whole _ _ _ before c.in-Some.name.now first.tree_value first.others first.is_first there

pub read_pairs-returns-in_err-read_value-clause-refused :
    goal.read_pairs-returns-in_err-read_value-clause-refused
read_pairs-returns-in_err-read_value-clause-refused t c = λ whole spelled.
    let before = c.loop-name.invariant.so_far whole spelled in
    let first = c.in-Some.ensures.steps.1.0 before.rest before.left in
    let new = sym (among_keys c.in-Some.name.now c.loop-name.names) ∙ sym c.contains.ensures ∙ c.if-contains.false in
    let told = err_from_is_err_and c.from_residual-in_err-read_value.result c.from_residual-in_err-read_value.ensures.1 in
    rw (told.1, told.2)
    (document_value_refused c.args.depth whole _ _ _ before c.in-Some.name.now first.tree_value first.others c.in_err-read_value.field-0.0 first.is_first new (c.in_err-read_value.ensures.refused first.tree_value first.shown))

pub read_pairs-append-requires : goal.read_pairs-append-requires
read_pairs-append-requires t c =
    rw c.in_ok-from_str.ensures.ok (sym c.contains.ensures ∙ c.if-contains.false)

pub read_pairs-loop-name-preserved : goal.read_pairs-loop-name-preserved
read_pairs-loop-name-preserved t c =
    let names = c.loop-name.names in
    let new = sym (among_keys c.in-Some.name.now names) ∙ sym c.contains.ensures ∙ c.if-contains.false in
    let put = c.in_ok-append.ensures.ok in
    record {
      can_next = tt;
      is_finite = tt;
      walked = c.in-Some.ensures.steps.0 ∙ c.loop-name.invariant.walked;
      lengths = rw (put, c.in_ok-push.ensures.items) (length-append names (c.in_ok-from_str.field-0 ∷ []) ∙ ap (λ (n : ℕ). n + 1) c.loop-name.invariant.lengths ∙ sym (length-append c.loop-name.values.items (c.in_ok-read_value.field-0 ∷ [])));
      so_far = λ whole spelled.
          let before = c.loop-name.invariant.so_far whole spelled in
          let first = c.in-Some.ensures.steps.1.0 before.rest before.left in
          let v = first.tree_value in
          rw (put, c.in_ok-push.ensures.items, map-append value_of, map-append string_bytes, c.in_ok-from_str.ensures.ok)
          (document_more c.args.depth whole (map string_bytes names) (map value_of c.loop-name.values.items) _ _ before c.in-Some.name.now v (value_of c.in_ok-read_value.field-0) first.others
          (length-map names string_bytes ∙ c.loop-name.invariant.lengths ∙ sym (length-map c.loop-name.values.items value_of))
          first.is_first first.left new (c.in_ok-read_value.ensures.unique v first.shown) (c.in_ok-read_value.ensures.read v first.shown));
    }

pub read_pairs-returns-clause-read : goal.read_pairs-returns-clause-read
read_pairs-returns-clause-read t c = λ whole spelled.
    let before = c.loop-name.invariant.so_far whole spelled in
    (document_done c.args.depth whole _ _ _ before (c.in-None.ensures.steps.1 before.rest before.left)).0
