use Rattle.wire_share.proofs.Wishing.{asks, begun_is, need_is}
use Rattle.wire_share.proofs.client.Client.wish.Goals as goal

pub returns-clause-need : goal.returns-clause-need
returns-clause-need c = λ m w.
    need_is c.in_ok-request.request m c.need_of.result (asks c.args.self.now.downstream.conn.server c.in_ok-request.request m c.in_ok-request.ensures.shown w)
    (λ content carries. c.need_of.ensures _ (c.command_in-command.ensures content.body (c.body.ensures content carries)))

pub returns-clause-begun : goal.returns-clause-begun
returns-clause-begun c = λ m w.
    begun_is c.in_ok-request.request m c.begun_by.result (asks c.args.self.now.downstream.conn.server c.in_ok-request.request m c.in_ok-request.ensures.shown w)
    (λ content carries. c.begun_by.ensures _ (c.command_in-command.ensures content.body (c.body.ensures content carries)))
