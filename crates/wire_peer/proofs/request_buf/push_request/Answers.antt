use Rattle.std.proofs.Common.{◌++◌, FitsSigned, w32, to_z-of_z, rules}
use Rattle.wire_msg.specs.{Content, canonical}
use Rattle.wire_peer.specs.Calls.{request}
use Rattle.wire_peer.proofs.ContentLaws.{bytes_of_content}
use Rattle.wire_peer.proofs.request_buf.push_request.Goals as goal

pub returns-in-Ok-clause-put : goal.returns-in-Ok-clause-put
returns-in-Ok-clause-put c =
    let fits : FitsSigned w32 c.args.no.id = search rules in
    bytes_of_content c.args.payload c.push_msg.new.self (λ (x : Content). c.args.output.now ++ canonical (request c.args.no.id c.args.kind x)) (λ x k. rw (← c.flags.ensures) (rw (to_z-of_z fits) at c.in-Ok.ensures.written x k))
