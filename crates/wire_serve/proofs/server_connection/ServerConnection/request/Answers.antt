use Rattle.std.proofs.Common.{◌∙◌, ap}
use Rattle.wire_serve.specs.ServerConnections.{ConnView}
use Rattle.wire_serve.proofs.Asking.{shown}
use Rattle.wire_serve.proofs.server_connection.ServerConnection.request.Goals as goal

-- the request is what the message that waits asks
pub returns-clause-shown : goal.returns-clause-shown
returns-clause-shown c =
    shown c.request.result c.self.inside.server c.args.self.now.server (ap (λ (f : ConnView). f.server.waiting) c.self.view_is)
    (λ none. c.if-waiting-eq0.false (c.waiting.ensures.count ∙ none)) c.waiting.ensures.each c.request.ensures.shown
