use Rattle.std.proofs.Common.{◌∷◌, []}
use Rattle.wire_model.specs.Owners.{Calls, SendsUp}
use Rattle.wire_peer.specs.declared.calls.CallKind.TheVariants.{Plain}
use Rattle.wire_end.proofs.Lemmas.{runs_on}
use Rattle.wire_play.proofs.loop_call.ask.Goals as goal

pub returns-clause-asked : goal.returns-clause-asked
returns-clause-asked g c =
    let L = g.L.Link in
    let flushed = c.flush.ensures.ran in (
      flushed.0,
      runs_on L.sent L.received _ _ _ (Calls Plain c.args.payload c.in-Ok.call ∷ []) (SendsUp flushed.0 ∷ []) c.in-Ok.ensures.called flushed.1,
    )
