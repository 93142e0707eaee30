use Rattle.std.proofs.Common.{◌<◌, ◌∙◌, ℕ, List, refl, subst, arith, ap}
use Rattle.bson_elem.specs.Items.{element_view}
use Rattle.byte_views.specs.declared.element.Element.{Element}
use Rattle.byte_views.specs.Shown.{is_put, no_memory, has_fault, none_there}
use Rattle.byte_views.specs.Texts.{IsPut, no_text}
use Rattle.byte_views.proofs.Told.{counted_from_0}
use Rattle.byte_views.proofs.value.put_value.Goals as goal
use Rattle.byte_views.proofs.value.put_value.Goals.{then-not-is_inside-via-then-not-is_inside, then-not-is_inside-via-else-not-is_inside+then-iter}

pub returns-then-not-is_inside : goal.returns-then-not-is_inside
returns-then-not-is_inside c =
    let told = c.none.ensures ∙ ap (λ (e : Element). no_text e.fault) c.wrong.ensures in
    elim c.then-not-is_inside.branch [
      | then-not-is_inside-via-then-not-is_inside w ↦ none_there (λ is. absurd (let no = w.if-not-is_inside.ensures.1 is.0 in cc)) told refl
      | then-not-is_inside-via-else-not-is_inside+then-iter w ↦ none_there (λ is. omega (arith, is.1, w.if-iter.true)) told refl
    ]

pub returns-in-Some : goal.returns-in-Some
returns-in-Some c =
    let inside = c.if-not-is_inside.ensures.0 refl in
    let s = c.args.iter.now in
    let lt : s.at < s.end = omega (arith, c.if-iter.false, inside.0) in
    let read = element_view c.args.bytes.now s.end c.in-Ok.element in
    is_put read inside lt c.in-Ok.ensures.read
    (subst (λ (x : List ℕ). IsPut x c.args.room.now c.put.new.room c.put.result) (c.as_slice.ensures.value ∙ c.in-Some.ensures c.in-Ok.element.next) c.put.ensures)

pub returns-in-None : goal.returns-in-None
returns-in-None c =
    let inside = c.if-not-is_inside.ensures.0 refl in
    let s = c.args.iter.now in
    let lt : s.at < s.end = omega (arith, c.if-iter.false, inside.0) in
    no_memory (element_view c.args.bytes.now s.end c.in-Ok.element) inside lt c.in-Ok.ensures.read c.no_memory.ensures refl

pub returns-in-Err : goal.returns-in-Err
returns-in-Err c =
    let inside = c.if-not-is_inside.ensures.0 refl in
    let s = c.args.iter.now in
    let lt : s.at < s.end = omega (arith, c.if-iter.false, inside.0) in
    has_fault c.in-Err.fault inside lt c.in-Err.ensures.read (c.none-in-Err.ensures ∙ ap no_text (c.of_document.ensures ∙ counted_from_0 c.in-Err.fault)) refl
