use Rattle.client_examples.proofs.Listing.{listed_all, listed_more, none_listed}
use Rattle.client_examples.proofs.pair.lines.write_calls.Goals as goal

pub loop-k-init : goal.loop-k-init
loop-k-init g c = none_listed _ _

pub loop-k-preserved : goal.loop-k-preserved
loop-k-preserved g c =
    listed_more _ _ _ c.args.calls.now c.loop-k.k c.index-calls-k.result c.loop-k-test.true c.index-calls-k.is c.loop-k.invariant c.in_ok-write_call.ensures

pub returns : goal.returns
returns g c = listed_all _ _ _ c.loop-k.k c.loop-k-test.false c.loop-k.invariant
