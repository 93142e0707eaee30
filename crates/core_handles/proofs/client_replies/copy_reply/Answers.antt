use Rattle.std.proofs.Common.{ℕ, List, subst}
use Rattle.core_handles.specs.Replying.{IsReplyPut, is_ready}
use Rattle.core_handles.proofs.Answering.{reply_refused}
use Rattle.core_handles.proofs.client_replies.copy_reply.Goals as goal

pub returns-in-Ok : goal.returns-in-Ok
returns-in-Ok c =
    is_ready c.in-Ok.reply c.in-Ok.message.items c.in-Ok.ensures.0 c.in-Ok.ensures.1
    (subst (λ (bytes : List ℕ). IsReplyPut c.in-Ok.reply bytes c.args.room.now c.put_reply.new.room c.put_reply.result) c.deref.ensures.value c.put_reply.ensures)

pub returns-in-Err : goal.returns-in-Err
returns-in-Err c = reply_refused c.args.client.now c.args.room.now c.in-Err.refusal c.refused.result c.refused.ensures c.in-Err.ensures
