use Rattle.std.proofs.Common.{◌∷◌, []}
use Rattle.wire_model.specs.Owners.{SendsDown}
use Rattle.wire_end.proofs.Lemmas.{end_runs_on, moves_runs}
use Rattle.wire_play.specs.Loopback.{echo_does, echo_stops}
use Rattle.wire_play.proofs.LoopLemmas.{on_any}
use Rattle.wire_play.proofs.loop_call.answer.Goals as goal

pub returns-clause-ran : goal.returns-clause-ran
returns-clause-ran g c =
    let L = g.L.Link in
    let came = c.next_request.ensures.comes in
    let sent = c.flush.ensures.ran in
    let received = moves_runs L.sent L.received echo_does echo_stops _ _ came.0 c.args.logged.now came.1 in
    let answered = end_runs_on L.sent L.received echo_does echo_stops _ _ _ _ _ _ came.0 _ received c.answer.ensures.ran in
    on_any c.whole.result (
      _,
      end_runs_on L.sent L.received echo_does echo_stops _ _ _ _ _ _ _ (SendsDown sent.0 ∷ []) answered
          (moves_runs L.sent L.received echo_does echo_stops _ _ (SendsDown sent.0 ∷ []) _ sent.1),
    )
