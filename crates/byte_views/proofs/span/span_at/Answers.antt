use Rattle.std.proofs.Common.{◌≡◌, ◌+◌, ◌-◌, ℕ, length, subst, ap, arith}
use Rattle.bson_elem.specs.Documents.{elements_of}
use Rattle.bson_elem.proofs.Lemmas.{length-document}
use Rattle.byte_views.specs.declared.iter.ElementIter.{ElementIter}
use Rattle.byte_views.specs.Spans.{IsElementSpan, in_elements}
use Rattle.byte_views.proofs.span.span_at.Goals as goal

abbrev up_to : ℕ → ElementIter
up_to end = record { start = 0; at = 4; end = end; depth = 1 }

pub returns-else-offset-end : goal.returns-else-offset-end
returns-else-offset-end c =
    let d = c.in-Ok.document.now in
    let size : length d - 1 ≡ length (elements_of d) + 4 = omega (arith, ap length c.in-Ok.ensures.lent, length-document (elements_of d)) in
    in_elements (elements_of d) c.in-Ok.field-0-1.now c.in-Ok.ensures.read (omega (arith, c.if-offset-lt4.false)) (omega (arith, c.if-offset-end.false, size))
    (subst (λ (n : ℕ). IsElementSpan c.args.bytes.now c.args.offset (up_to n) c.element_span.result) size c.element_span.ensures)
