use Rattle.std.proofs.Common.{ℕ, List, subst}
use Rattle.core_handles.specs.Requesting.{IsRequestPut}
use Rattle.core_handles.proofs.Serving.{request_copied, request_refused}
use Rattle.core_handles.proofs.server_requests.copy_request.Goals as goal

pub returns-in-Ok : goal.returns-in-Ok
returns-in-Ok c =
    let x = c.in-Ok.ensures in
    request_copied c.args.server.now c.args.k x.0 c.in-Ok.takes_more c.in-Ok.message.items c.args.room.now c.put_request.new.room c.put_request.result x.1 x.2 x.3
    (subst (λ (bytes : List ℕ). IsRequestPut c.in-Ok.takes_more bytes c.args.room.now c.put_request.new.room c.put_request.result) c.deref.ensures.value c.put_request.ensures)

pub returns-in-Err : goal.returns-in-Err
returns-in-Err c = request_refused c.args.server.now c.args.k c.args.room.now c.in-Err.refusal c.refused.result c.refused.ensures c.in-Err.ensures
