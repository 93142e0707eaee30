use Rattle.std.proofs.Common.{Err, Ok, ap}
use Rattle.wire_peer.specs.{ServerView, log_of}
use Rattle.wire_serve.specs.Kept.{view_of}
use Rattle.wire_serve.proofs.Answering.{answered_as, put_plain, put_refused, put_reply, stays, still_kept}
use Rattle.wire_serve.proofs.server_connection.ServerConnection.answer.Goals as goal

pub invariant_of-self : goal.invariant_of-self
invariant_of-self g c =
    let f = c.self.inside in
    let H = g.H.Handler in
    still_kept H.does H.stops (Ok c.in-Ok.entry) f.server c.answer.new.self c.args.logged.now.handler c.answer.new.logged.handler
    (log_of c.args.logged.now.entries.items) (log_of c.answer.new.logged.entries.items) f.part.items f.reply.items
    f.gone f.cause c.self.invariant (rw (← c.self.view_is) at c.requires) c.in-Ok.ensures

pub invariant_of-self-else-self : goal.invariant_of-self-else-self
invariant_of-self-else-self g c =
    let f = c.self.inside in
    let H = g.H.Handler in
    still_kept H.does H.stops (Ok c.in-Ok.entry) f.server c.answer.new.self c.args.logged.now.handler c.answer.new.logged.handler
    (log_of c.args.logged.now.entries.items) (log_of c.answer.new.logged.entries.items) f.part.items f.reply.items
    f.gone f.cause c.self.invariant (rw (← c.self.view_is) at c.requires) c.in-Ok.ensures

pub returns-then-self-clause-answers : goal.returns-then-self-clause-answers
returns-then-self-clause-answers g c =
    let f = c.self.inside in
    let H = g.H.Handler in
    rw (← c.self.view_is) (answered_as H.does H.stops (Ok c.in-Ok.entry) f.server c.answer.new.self c.args.logged.now.handler c.answer.new.logged.handler
    (log_of c.args.logged.now.entries.items) (log_of c.answer.new.logged.entries.items) f.part.items f.reply.items f.queried f.gone f.cause
    c.respell.new.self (rw (← c.self.view_is) at c.requires) c.in-Ok.ensures
    (put_reply f.queried c.in-Ok.entry (view_of c.answer.new.self f.part.items f.queried f.reply.items f.gone f.cause) c.respell.new.self c.if-self.true c.respell.ensures))

pub returns-else-self-clause-answers : goal.returns-else-self-clause-answers
returns-else-self-clause-answers g c =
    let f = c.self.inside in
    let H = g.H.Handler in
    rw (← c.self.view_is) (answered_as H.does H.stops (Ok c.in-Ok.entry) f.server c.answer.new.self c.args.logged.now.handler c.answer.new.logged.handler
    (log_of c.args.logged.now.entries.items) (log_of c.answer.new.logged.entries.items) f.part.items f.reply.items f.queried f.gone f.cause
    (view_of c.answer.new.self f.part.items f.queried f.reply.items f.gone f.cause) (rw (← c.self.view_is) at c.requires) c.in-Ok.ensures
    (put_plain f.queried (Ok c.in-Ok.entry) (view_of c.answer.new.self f.part.items f.queried f.reply.items f.gone f.cause) c.if-self.false))

pub returns-in-Err-clause-answers : goal.returns-in-Err-clause-answers
returns-in-Err-clause-answers g c =
    let f = c.self.inside in
    let H = g.H.Handler in
    rw (← c.self.view_is) (answered_as H.does H.stops (Err c.in-Err.refusal) f.server c.answer.new.self c.args.logged.now.handler c.answer.new.logged.handler
    (log_of c.args.logged.now.entries.items) (log_of c.answer.new.logged.entries.items) f.part.items f.reply.items f.queried f.gone f.cause
    (view_of c.answer.new.self f.part.items f.queried f.reply.items f.gone f.cause) (rw (← c.self.view_is) at c.requires) c.in-Err.ensures
    (put_refused f.queried c.in-Err.refusal (view_of c.answer.new.self f.part.items f.queried f.reply.items f.gone f.cause)))

pub returns-then-self-clause-unchanged : goal.returns-then-self-clause-unchanged
returns-then-self-clause-unchanged g c = λ waits. absurd (waits tt)

pub returns-else-self-clause-unchanged : goal.returns-else-self-clause-unchanged
returns-else-self-clause-unchanged g c = λ waits. absurd (waits tt)

pub returns-in-Err-clause-unchanged : goal.returns-in-Err-clause-unchanged
returns-in-Err-clause-unchanged g c = λ waits.
    let f = c.self.inside in
    let H = g.H.Handler in
    rw (← c.self.view_is) (ap (λ (s : ServerView). view_of s f.part.items f.queried f.reply.items f.gone f.cause)
    (stays H.does H.stops c.in-Err.refusal f.server c.answer.new.self c.args.logged.now.handler c.answer.new.logged.handler
    (log_of c.args.logged.now.entries.items) (log_of c.answer.new.logged.entries.items) c.in-Err.ensures waits))
