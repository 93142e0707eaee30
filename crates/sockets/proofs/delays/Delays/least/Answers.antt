use Rattle.std.proofs.Common.{◌≡◌, sym, ◌∙◌, ap, ap₂, take_all, List, inr, arith}
use Rattle.sockets.specs.declared.delays.Delay.{Delay}
use Rattle.sockets.specs.Delaying.{first_left, sooner}
use Rattle.sockets.proofs.Delaying.{one_more}
use Rattle.sockets.proofs.delays.Delays.least.Goals as goal

pub loop-delay-preserved : goal.loop-delay-preserved
loop-delay-preserved g c =
    c.sooner-least.ensures ∙ ap₂ sooner c.loop-delay.invariant c.left.ensures
    ∙ sym (one_more c.deref-delay-items.result.now c.loop-delay.delay-index _ c.in_ok-now.now (omega arith))

pub returns : goal.returns
returns g c =
    let all = take_all c.loop-delay.delay-index c.deref-delay-items.result.now (omega arith) in
    inr (c.in_ok-now.now, c.loop-delay.invariant ∙ ap (λ (ds : List Delay). first_left ds c.in_ok-now.now) (all ∙ c.deref-delay-items.ensures.value))
