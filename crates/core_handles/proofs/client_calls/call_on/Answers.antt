use Rattle.wire_peer.proofs.Lemmas.{content_is}
use Rattle.core_handles.proofs.Answering.{call_is_made, call_is_refused}
use Rattle.core_handles.proofs.client_calls.call_on.Goals as goal

pub returns-in-Ok : goal.returns-in-Ok
returns-in-Ok c content carries =
    call_is_made c.args.client.now c.args.kind c.call_as.new.client _ content c.in-Ok.no c.made.result
    (content_is c.args.payload content carries) c.in-Ok.ensures.0 c.in-Ok.ensures.1 c.made.ensures

pub returns-in-Err : goal.returns-in-Err
returns-in-Err c content carries =
    call_is_refused c.args.client.now c.args.kind c.call_as.new.client _ content c.in-Err.refusal c.call_number.result c.refused.result
    (content_is c.args.payload content carries) c.in-Err.ensures.0 c.in-Err.ensures.1 c.call_number.ensures c.refused.ensures
