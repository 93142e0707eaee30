use Rattle.std.proofs.Common.{◌≡◌, None, Some, map, ap, ◌∙◌, slice_set}
use Rattle.std.specs.Prelude.{slice_get}
use Rattle.bson_doc.specs.Bson.{value_of}
use Rattle.doc_query.specs.{steps_left}
use Rattle.doc_update.specs.Removing.{left_by, left_of}
use Rattle.doc_update.proofs.ElementLaws.{got_at, got_none, left_same, left_set}
use Rattle.doc_update.proofs.removing.+leaving.Goals as goal

pub left_by-returns-in_default-get : goal.left_by-returns-in_default-get
left_by-returns-in_default-get t c =
    let leave = left_of (steps_left c.args.rest) in
    let got : slice_get c.args.elements.now c.in-Some.index ≡ None = got_none c.args.elements.now c.in-Some.index c.in_default-get.ensures.lookup.3 in
    left_same leave c.in-Some.index c.in_ok-values.values.items c.args.elements.now c.in_ok-values.ensures got
    ∙ ap (λ i. left_by leave i (map value_of c.args.elements.now)) c.in-Some.ensures

pub left_by-returns : goal.left_by-returns
left_by-returns t c =
    let leave = left_of (steps_left c.args.rest) in
    let got : slice_get c.args.elements.now c.in-Some.index ≡ Some c.in-Some-get.element.now = got_at c.args.elements.now c.in-Some.index c.in-Some-get.element.now c.in-Some-get.ensures.lookup.3.0 c.in-Some-get.ensures.lookup.1 in
    ap (λ v. map value_of (slice_set c.in_ok-values.values.items c.in-Some.index v)) (c.replace.ensures.after ∙ c.unwrap_or.ensures)
    ∙ left_set leave c.in-Some.index c.in_ok-values.values.items c.args.elements.now c.in-Some-get.element.now c.in_ok-left.left c.in_ok-values.ensures got c.in_ok-left.ensures
    ∙ ap (λ i. left_by leave i (map value_of c.args.elements.now)) c.in-Some.ensures
