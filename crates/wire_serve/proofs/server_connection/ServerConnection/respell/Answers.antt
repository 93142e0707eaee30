use Rattle.std.proofs.Common.{List, Some, ap, ℕ, ◌∙◌, subst}
use Rattle.wire_serve.specs.ServerConnections.{ConnView, refused, respelled}
use Rattle.wire_serve.specs.Respelling.{NoRespelling, Respells}
use Rattle.wire_serve.proofs.server_connection.ServerConnection.respell.Goals as goal

pub returns-in-Ok : goal.returns-in-Ok
returns-in-Ok c = respelled c.in-Ok.reply.items
    (subst (λ (o : List ℕ). Respells o c.in-Ok.reply.items) c.output.ensures c.in-Ok.ensures) c.put.ensures

pub returns-in-Err : goal.returns-in-Err
returns-in-Err c =
    let f : ConnView = c.args.self.now in
    refused c.in-Err.cause
    (subst (λ (o : List ℕ). NoRespelling o c.in-Err.cause) c.output.ensures c.in-Err.ensures)
    (ap (λ (z : ConnView). record z { cause = Some c.in-Err.cause }) (c.self-in-Err.view_is ∙ c.put-in-Err-2.ensures
    ∙ ap (λ (o : List ℕ). record f { output = o }) c.new.ensures.items))
