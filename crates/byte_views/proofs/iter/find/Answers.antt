use Rattle.std.proofs.Common.{refl}
use Rattle.byte_views.specs.Finding.{no_step, one_more}
use Rattle.byte_views.proofs.iter.find.Goals as goal

pub loop-next-init : goal.loop-next-init
loop-next-init c = no_step refl

pub loop-next-preserved-in-Some : goal.loop-next-preserved-in-Some
loop-next-preserved-in-Some c = one_more c.loop-next.at c.loop-next.invariant c.in-Some.ensures

pub loop-next-preserved : goal.loop-next-preserved
loop-next-preserved c =
    one_more c.loop-next.at c.loop-next.invariant
    (c.step-next.new.element, c.step-next.ensures, c.if-element-eq0.false, λ is. absurd (let no = c.if-is_named.ensures.1 is in cc))
