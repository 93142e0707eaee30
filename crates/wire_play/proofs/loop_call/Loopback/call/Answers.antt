use Rattle.std.proofs.Common.{◌<◌, ◌^◌, arith}
use Rattle.wire_msg.specs.{body_alone}
use Rattle.wire_peer.proofs.Lemmas.{content_is}
use Rattle.wire_end.proofs.Lemmas.{runs_on}
use Rattle.wire_play.specs.Calling.{call_body}
use Rattle.wire_play.proofs.Rounds.{round}
use Rattle.wire_play.proofs.loop_call.Loopback.call.Goals as goal

pub returns-clause-number : goal.returns-clause-number
returns-clause-number g c =
    let L = g.L.Link in
    let k = c.args.k in
    let small : k < 2 ^ 8 = omega arith in
    let body = body_alone (call_body k) in
    let payload = c.as_payload-sent.result in
    let carries = c.as_payload-sent.ensures body c.in_ok-payload.ensures.body in
    let asked = c.in_ok-call.ensures.asked in
    let took = c.in_ok-take_reply.ensures.took in
    let back = c.in_ok-take_reply.ensures.body (call_body k) (c.body.ensures body carries) in
    let whole = round L.sent L.received k payload c.in_ok-call.call asked.0 took.0 took.1 took.2 back.0 _ _ _ small c.requires (content_is payload body carries) asked.1 c.in_ok-call.ensures.sent took.3 back.1 back.2 in
    (whole.number, whole.id)

pub returns-clause-complete : goal.returns-clause-complete
returns-clause-complete g c =
    let L = g.L.Link in
    let k = c.args.k in
    let small : k < 2 ^ 8 = omega arith in
    let body = body_alone (call_body k) in
    let payload = c.as_payload-sent.result in
    let carries = c.as_payload-sent.ensures body c.in_ok-payload.ensures.body in
    let asked = c.in_ok-call.ensures.asked in
    let took = c.in_ok-take_reply.ensures.took in
    let back = c.in_ok-take_reply.ensures.body (call_body k) (c.body.ensures body carries) in
    let whole = round L.sent L.received k payload c.in_ok-call.call asked.0 took.0 took.1 took.2 back.0 _ _ _ small c.requires (content_is payload body carries) asked.1 c.in_ok-call.ensures.sent took.3 back.1 back.2 in
    whole.complete

pub returns-clause-sent : goal.returns-clause-sent
returns-clause-sent g c =
    let L = g.L.Link in
    let k = c.args.k in
    let small : k < 2 ^ 8 = omega arith in
    let body = body_alone (call_body k) in
    let payload = c.as_payload-sent.result in
    let carries = c.as_payload-sent.ensures body c.in_ok-payload.ensures.body in
    let asked = c.in_ok-call.ensures.asked in
    let took = c.in_ok-take_reply.ensures.took in
    let back = c.in_ok-take_reply.ensures.body (call_body k) (c.body.ensures body carries) in
    let whole = round L.sent L.received k payload c.in_ok-call.call asked.0 took.0 took.1 took.2 back.0 _ _ _ small c.requires (content_is payload body carries) asked.1 c.in_ok-call.ensures.sent took.3 back.1 back.2 in
    whole.sends

pub returns-clause-reply : goal.returns-clause-reply
returns-clause-reply g c =
    let L = g.L.Link in
    let k = c.args.k in
    let small : k < 2 ^ 8 = omega arith in
    let body = body_alone (call_body k) in
    let payload = c.as_payload-sent.result in
    let carries = c.as_payload-sent.ensures body c.in_ok-payload.ensures.body in
    let asked = c.in_ok-call.ensures.asked in
    let took = c.in_ok-take_reply.ensures.took in
    let back = c.in_ok-take_reply.ensures.body (call_body k) (c.body.ensures body carries) in
    let whole = round L.sent L.received k payload c.in_ok-call.call asked.0 took.0 took.1 took.2 back.0 _ _ _ small c.requires (content_is payload body carries) asked.1 c.in_ok-call.ensures.sent took.3 back.1 back.2 in
    whole.reply

pub returns-clause-client : goal.returns-clause-client
returns-clause-client g c =
    let L = g.L.Link in
    (_, runs_on L.sent L.received _ _ _ _ _ c.in_ok-call.ensures.asked.1 c.in_ok-take_reply.ensures.took.3)
