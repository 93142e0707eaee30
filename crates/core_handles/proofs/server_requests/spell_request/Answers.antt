use Rattle.std.proofs.Common.{ap, ◌∙◌, arith}
use Rattle.wire_peer.specs.{takes_more}
use Rattle.core_handles.proofs.Serving.{a_message, behind_none, request_written}
use Rattle.core_handles.proofs.server_requests.spell_request.Goals as goal

pub returns-in-Ok : goal.returns-in-Ok
returns-in-Ok c =
    let s = c.args.server.now in
    let m = a_message s.limit c.args.k s c.waiting.ensures.each (omega (arith, c.waiting.ensures.count)) in
    let shown = c.in-Some.ensures.shown m.0 m.1 in (
      m.0,
      m.1,
      c.takes_more.ensures ∙ ap takes_more shown,
      request_written c.in-Some.request m.0 c.write_msg.new.out.items (λ x carries. behind_none c.write_msg.new.out.items c.new-message.result.items _ (c.in-Ok.ensures.written x carries) c.new-message.ensures.items) shown,
    )
