use Rattle.std.proofs.Common.{◌∙◌, ap, arith, inr, refl, sym, take}
use Rattle.wire_peer.specs.{ClientSeen}
use Rattle.wire_world.proofs.DownLoops.{down_more, down_none, output_within, pass_down_none, released_none, unfed_within}
use Rattle.wire_world.proofs.Pieces.{length_take_within}
use Rattle.wire_world.proofs.moving.pass_down.Goals as goal

pub loop-moved-init : goal.loop-moved-init
loop-moved-init c = record { gone = down_none _ _ _ _ _ _ refl refl; at_most = omega arith; released = c.requires }

pub returns-in_default : goal.returns-in_default
returns-in_default c = (c.loop-moved.invariant.at_most, c.loop-moved.invariant.gone, c.loop-moved.invariant.released, λ lt. inr (λ live. c.in_default.not-Open (c.state.ensures.state ∙ live)))

pub feed_client-requires-clause-may : goal.feed_client-requires-clause-may
feed_client-requires-clause-may c = (c.loop-moved.invariant.released (sym c.in-Open.ensures.state), sym c.in-Open.ensures.state)

pub feed_client-requires-clause-between : goal.feed_client-requires-clause-between
feed_client-requires-clause-between c = c.in-Open.ensures.between refl (c.loop-moved.invariant.released (sym c.in-Open.ensures.state))

pub returns-in-Ok-eq0 : goal.returns-in-Ok-eq0
returns-in-Ok-eq0 c = pass_down_none (Unit {0}) _ _ _ _ _ _ _ _ _ c.args.n c.loop-moved.moved c.in-Ok-eq0.field-0 c.min.result _ (omega arith) (rw (← c.output-output.ensures) c.min.ensures) (ap (take c.min.result) c.output-output.ensures) c.in-Ok-eq0.field-0-test c.loop-moved.invariant.gone c.in-Ok-eq0.ensures.fed

pub sent-requires : goal.sent-requires
sent-requires c = output_within c.in-Ok.taken c.min.result _ _ (ap (take c.min.result) c.output-output.ensures) c.in-Ok.ensures.fed.within

pub sent-requires-in-Err : goal.sent-requires-in-Err
sent-requires-in-Err c = output_within c.in-Err.taken c.min.result _ _ (ap (take c.min.result) c.output-output.ensures) (unfed_within _ _ _ _ c.in-Err.ensures.fed)

pub loop-moved-preserved : goal.loop-moved-preserved
loop-moved-preserved c =
    let within = c.in-Ok.ensures.fed.within in
    let fewer = length_take_within c.min.result c.output-output.result.now in
    record {
      gone = down_more _ _ _ _ _ _ _ _ _ _ _ _ c.min.result c.in-Ok.taken (ap (take c.min.result) c.output-output.ensures) c.loop-moved.invariant.gone c.in-Ok.ensures.fed c.sent.ensures;
      at_most = omega (arith, within, fewer, c.min.ensures);
      released = λ live. ap (λ (k : ClientSeen). k.reply) c.in-Ok.ensures.fed.after ∙ released_none c.in-Ok.ensures.fed.mid;
    }

pub returns-in-Err : goal.returns-in-Err
returns-in-Err c = record {
  moved = c.loop-moved.moved;
  at_most = c.loop-moved.invariant.at_most;
  many = c.min.result;
  small = omega (arith, c.min.ensures);
  mid = c.loop-moved.client;
  half = c.loop-moved.server;
  gone = rw c.in-Err.ensures.unchanged c.loop-moved.invariant.gone;
  taken = c.in-Err.taken;
  unfed = rw (← c.output-output.ensures) c.in-Err.ensures.fed;
  after = c.sent-in-Err.ensures;
}

pub returns : goal.returns
returns c = (c.loop-moved.invariant.at_most, c.loop-moved.invariant.gone, c.loop-moved.invariant.released, λ lt. absurd (omega (arith, lt)))
