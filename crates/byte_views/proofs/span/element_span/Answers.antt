use Rattle.std.proofs.Common.{◌∙◌, ap, refl, arith}
use Rattle.byte_views.specs.Spans.{at_fault, enters, outside, passes, stops}
use Rattle.byte_views.specs.Views.{view}
use Rattle.byte_views.proofs.span.element_span.Goals as goal

pub returns-then-not-is_inside : goal.returns-then-not-is_inside
returns-then-not-is_inside c = c.loop-place.invariant _ (outside (λ is. absurd (let no = c.if-not-is_inside.ensures.1 is in cc)) refl)

pub returns-then-element-eq0 : goal.returns-then-element-eq0
returns-then-element-eq0 c =
    c.loop-place.invariant _ (at_fault c.step-next.new.element c.step-next.result (c.if-not-is_inside.ensures.0 refl) c.step-next.ensures c.if-element-eq0.true c.fault_span.ensures)

pub loop-place-preserved-then-next-offset : goal.loop-place-preserved-then-next-offset
loop-place-preserved-then-next-offset c = λ v is.
    c.loop-place.invariant v (passes c.step-next.new.element c.step-next.result c.step-next.ensures c.if-element-eq0.false c.if-next-offset.true is)

pub returns-then-not-holds : goal.returns-then-not-holds
returns-then-not-holds c =
    c.loop-place.invariant _
    (stops c.step-next.new.element c.step-next.result c.walk_enter-inner.result c.step-next.ensures c.if-element-eq0.false (omega (arith, c.if-next-offset.false)) (c.walk_enter-inner.ensures.enters, c.walk_enter-inner.ensures.wrong)
    (λ is. absurd (let no = c.if-not-holds.ensures.1 is in cc)) (c.new.ensures ∙ ap (view c.loop-place.place.at) c.saturating_sub.ensures))

pub loop-place-preserved : goal.loop-place-preserved
loop-place-preserved c = λ v is.
    c.loop-place.invariant v
    (enters c.step-next.new.element c.step-next.result c.walk_enter-inner.result c.step-next.ensures c.if-element-eq0.false (omega (arith, c.if-next-offset.false)) (c.walk_enter-inner.ensures.enters, c.walk_enter-inner.ensures.wrong)
    (c.if-not-holds.ensures.0 refl) is)
