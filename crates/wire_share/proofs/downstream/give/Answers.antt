use Rattle.wire_peer.specs.{log_of}
use Rattle.wire_share.proofs.Passing.{relayed}
use Rattle.wire_share.proofs.downstream.give.Goals as goal

-- it was given, since the request left
pub returns-then-has_left-clause-given : goal.returns-then-has_left-clause-given
returns-then-has_left-clause-given c =
    relayed c.answer.result c.args.payload c.args.conn.now c.answer.new.self c.new-logged.result.handler c.answer.new.logged.handler
    (log_of c.new-logged.result.entries.items) (log_of c.answer.new.logged.entries.items)
    (c.has_left.ensures.yes c.if-has_left.true) c.requires
    c.new-logged.ensures.handler c.new-logged.ensures.empty c.answer.ensures.answers
