use Rattle.std.proofs.Common.{rules}
use Rattle.client_examples.specs.Owning.{message_limit}
use Rattle.client_examples.proofs.Knowing.{have_run}
use Rattle.client_examples.proofs.Moving.{reached_on}
use Rattle.client_examples.proofs.pair.runs.run.Goals as goal

pub loop-preserved : goal.loop-preserved
loop-preserved g c =
    let H = g.H.Handler in
    reached_on H.does H.stops c.args.handler c.loop.ends c.step.new.ends c.loop.invariant c.in_ok-step.ensures

pub returns : goal.returns
returns g c =
    let H = g.H.Handler in
    let r = reached_on H.does H.stops c.args.handler c.loop.ends c.end.new.self c.loop.invariant c.end.ensures in
    have_run H.does H.stops c.args.handler c.end.new.self r (c.channels_hold.ensures message_limit c.args.handler r.s (search rules) r.trace)
