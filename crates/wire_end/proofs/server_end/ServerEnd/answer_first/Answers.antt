use Rattle.std.proofs.Common.{◌∙◌, ap, refl, subst}
use Rattle.wire_stream.specs.{Rose}
use Rattle.wire_end.proofs.AnswerRuns.{answered_runs, stands_refused, stays_open, was_refused, were_cut, were_sent}
use Rattle.wire_end.proofs.server_end.ServerEnd.answer_first.Goals as goal

pub returns-in-Err-clause-answered : goal.returns-in-Err-clause-answered
returns-in-Err-clause-answered g c =
    let L = g.L.Link in
    let H = g.H.Handler in
    rw c.from.ensures (was_refused H.does H.stops L.received L.sent L.turns L.failures L.ends L.waits c.args.self.now c.answer.new.self c.args.logged.now c.answer.new.logged
    c.in-Err.refusal c.in-Err.ensures.ran c.answer.ensures.link)

pub returns-in-Err-clause-stands : goal.returns-in-Err-clause-stands
returns-in-Err-clause-stands g c =
    let L = g.L.Link in
    let H = g.H.Handler in
    rw c.from.ensures (stands_refused H.does H.stops L.received L.sent L.turns L.failures L.ends L.waits c.args.self.now c.answer.new.self c.args.logged.now c.answer.new.logged
    c.in-Err.refusal c.in-Err.ensures.ran)

pub returns-in-Ok-All-clause-ran : goal.returns-in-Ok-All-clause-ran
returns-in-Ok-All-clause-ran g c =
    let L = g.L.Link in
    let H = g.H.Handler in
    let sent = c.flush.ensures.ran in
    answered_runs H.does H.stops L.received L.sent L.turns L.failures L.ends L.waits c.in_default.field-0 c.args.self.now c.answer.new.self c.flush.new.self c.args.logged.now c.answer.new.logged
    c.in_default.ensures.ran c.answer.ensures.link sent.0 sent.1

pub returns-in-Ok-All-clause-answered : goal.returns-in-Ok-All-clause-answered
returns-in-Ok-All-clause-answered g c =
    let L = g.L.Link in
    let H = g.H.Handler in
    let sent = c.flush.ensures.ran in
    let all = rw c.in-Ok-All.field-0-is at c.in-Ok-All.ensures.all in
    were_sent H.does H.stops L.received L.sent L.turns L.failures L.ends L.waits c.in_default.field-0 c.args.self.now c.answer.new.self c.flush.new.self c.args.logged.now c.answer.new.logged
    c.in_default.ensures.ran c.answer.ensures.link sent.0 sent.1 (all refl) c.in-Ok-All.ensures.works

pub returns-in-Ok-Later-clause-ran : goal.returns-in-Ok-Later-clause-ran
returns-in-Ok-Later-clause-ran g c =
    let L = g.L.Link in
    let H = g.H.Handler in
    let sent = c.flush.ensures.ran in
    answered_runs H.does H.stops L.received L.sent L.turns L.failures L.ends L.waits c.in_default.field-0 c.args.self.now c.answer.new.self c.flush.new.self c.args.logged.now c.answer.new.logged
    c.in_default.ensures.ran c.answer.ensures.link sent.0 sent.1

pub returns-in-Ok-Later-clause-answered : goal.returns-in-Ok-Later-clause-answered
returns-in-Ok-Later-clause-answered g c = λ request alone.
    let L = g.L.Link in
    let H = g.H.Handler in
    let sent = c.flush.ensures.ran in
    let part = were_cut H.does H.stops L.received L.sent L.turns L.failures L.ends L.waits c.in_default.field-0 c.args.self.now c.answer.new.self c.flush.new.self c.args.logged.now c.answer.new.logged
    c.in_default.ensures.ran c.answer.ensures.link sent.0 sent.1 request alone in
    (part.0, part.1, (c.in-Ok-Later.ensures.works ∙ ap L.failures c.answer.ensures.link, part.2))

pub returns-in-Ok-Later-clause-stands : goal.returns-in-Ok-Later-clause-stands
returns-in-Ok-Later-clause-stands g c =
    let L = g.L.Link in
    let H = g.H.Handler in
    let sent = c.flush.ensures.ran in
    stays_open H.does H.stops L.received L.sent L.turns L.failures L.ends L.waits c.in_default.field-0 c.args.self.now c.answer.new.self c.flush.new.self c.args.logged.now c.answer.new.logged
    c.in_default.ensures.ran c.answer.ensures.link sent.0 sent.1

pub returns-in-Err-flush-clause-ran : goal.returns-in-Err-flush-clause-ran
returns-in-Err-flush-clause-ran g c =
    let L = g.L.Link in
    let H = g.H.Handler in
    let sent = c.flush.ensures.ran in
    answered_runs H.does H.stops L.received L.sent L.turns L.failures L.ends L.waits c.in_default.field-0 c.args.self.now c.answer.new.self c.flush.new.self c.args.logged.now c.answer.new.logged
    c.in_default.ensures.ran c.answer.ensures.link sent.0 sent.1

pub returns-in-Err-flush-clause-answered : goal.returns-in-Err-flush-clause-answered
returns-in-Err-flush-clause-answered g c = λ request alone.
    let L = g.L.Link in
    let H = g.H.Handler in
    let sent = c.flush.ensures.ran in
    let part = were_cut H.does H.stops L.received L.sent L.turns L.failures L.ends L.waits c.in_default.field-0 c.args.self.now c.answer.new.self c.flush.new.self c.args.logged.now c.answer.new.logged
    c.in_default.ensures.ran c.answer.ensures.link sent.0 sent.1 request alone in
    (part.0, part.1, (subst (λ n. Rose n (L.failures c.flush.new.self.link)) (ap L.failures c.answer.ensures.link) c.in-Err-flush.ensures.fails, part.2))

pub returns-in-Err-flush-clause-stands : goal.returns-in-Err-flush-clause-stands
returns-in-Err-flush-clause-stands g c =
    let L = g.L.Link in
    let H = g.H.Handler in
    let sent = c.flush.ensures.ran in
    stays_open H.does H.stops L.received L.sent L.turns L.failures L.ends L.waits c.in_default.field-0 c.args.self.now c.answer.new.self c.flush.new.self c.args.logged.now c.answer.new.logged
    c.in_default.ensures.ran c.answer.ensures.link sent.0 sent.1
