use Rattle.std.proofs.Common.{◌≡◌, Bool, not, [], Some, ap, sym, ◌∙◌}
use Rattle.std.specs.Prelude.{if◌then◌else◌}
use Rattle.std.specs.List.{list_any}
use Rattle.bson_doc.specs.declared.bson_values.Bson.TheVariants as values
use Rattle.bson_doc.specs.Bson.{value_of}
use Rattle.doc_query.specs.Criteria.{fits}
use Rattle.doc_query.specs.Paths.{reached, steps, steps_left}
use Rattle.doc_query.proofs.PathLaws.{by_index_more, reach_array}
use Rattle.doc_query.proofs.paths.+reaching.Goals as goal

pub reaches-returns-in-Some-Array : goal.reaches-returns-in-Some-Array
reaches-returns-in-Some-Array t c =
    let path = c.in-Some.path.now in
    let test = fits c.args.criterion in
    let is : c.in-Some-Array.field-0.now ≡ values.Array c.in-Some-Array.array = rw c.in-Some-Array.is at c.in-Some-Array.field-0-is in
    rw (c.in-Some.is, c.in-Some-Array.is)
    (c.reaches_in_each.ensures ∙ reach_array test path _ _ _ _ c.first_step.ensures.first c.as_slice.ensures
    ∙ ap (λ b. list_any test (reached (steps path) (Some (value_of b)))) (sym is))

pub reaches_by_index-returns-then-is_container : goal.reaches_by_index-returns-then-is_container
reaches_by_index-returns-then-is_container t c =
    let rest = reached (steps_left c.args.rest) in
    let v = value_of c.args.element.now in
    c.reaches.ensures
    ∙ sym (ap (list_any (fits c.args.criterion))
    (by_index_more c.args.rest rest v (c.is_none.ensures ∙ ap not c.if-is_none.false)
    ∙ ap (λ (b : Bool). if b then rest (Some v) else []) (sym c.is_container.ensures ∙ c.if-is_container.true)))

pub reaches_by_index-returns-else-is_container : goal.reaches_by_index-returns-else-is_container
reaches_by_index-returns-else-is_container t c =
    let rest = reached (steps_left c.args.rest) in
    let v = value_of c.args.element.now in
    c.if-is_container.false
    ∙ sym (ap (list_any (fits c.args.criterion))
    (by_index_more c.args.rest rest v (c.is_none.ensures ∙ ap not c.if-is_none.false)
    ∙ ap (λ (b : Bool). if b then rest (Some v) else []) (sym c.is_container.ensures ∙ c.if-is_container.false)))
