use Rattle.std.proofs.Common.{◌≡◌, ap, arith}
use Rattle.wire_peer.specs.{ServerView}
use Rattle.wire_end.proofs.Serves.{asked, ends_fault, ends_later, ends_spent, ends_unanswered, never_full, ran_so, ran_through, rests_again, rests_first, stands_fault, stands_later}
use Rattle.wire_end.proofs.server_end.ServerEnd.serve.Goals as goal

pub loop-i-init : goal.loop-i-init
loop-i-init g c =
    let L = g.L.Link in
    let H = g.H.Handler in
    rests_first H.does H.stops L.received L.sent L.turns L.failures L.ends L.waits c.args.self.now c.args.logged.now c.requires

-- ---- no request

pub returns-in-Ok-Later-clause-served : goal.returns-in-Ok-Later-clause-served
returns-in-Ok-Later-clause-served g c =
    let L = g.L.Link in
    let H = g.H.Handler in
    let n = c.next_request.ensures in
    let came = rw c.in-Ok-Later.field-0-is at c.in-Ok-Later.ensures.comes in
    let later = rw c.in-Ok-Later.field-0-is at c.in-Ok-Later.ensures.later in
    ends_later H.does H.stops L.received L.sent L.turns L.failures L.ends L.waits c.args.self.now c.args.logged.now c.loop-i.self c.loop-i.logged c.loop-i.i c.loop-i.invariant
    c.next_request.new.self came.0 came.1 n.sent n.turns c.args.budget c.loop-i-test.true came.2 later c.in-Ok-Later.ensures.fails

pub returns-in-Ok-Later-clause-ran : goal.returns-in-Ok-Later-clause-ran
returns-in-Ok-Later-clause-ran g c =
    let L = g.L.Link in
    let H = g.H.Handler in
    let n = c.next_request.ensures in
    ran_so H.does H.stops L.received L.sent L.turns L.failures L.ends L.waits c.args.self.now c.args.logged.now c.loop-i.self c.loop-i.logged c.loop-i.i c.loop-i.invariant
    c.next_request.new.self n.comes.0 n.comes.1 n.sent n.turns

pub returns-in-Ok-Later-clause-stands : goal.returns-in-Ok-Later-clause-stands
returns-in-Ok-Later-clause-stands g c =
    let L = g.L.Link in
    let H = g.H.Handler in
    let n = c.next_request.ensures in
    let came = rw c.in-Ok-Later.field-0-is at c.in-Ok-Later.ensures.comes in
    stands_later H.does H.stops L.received L.sent L.turns L.failures L.ends L.waits c.args.self.now c.args.logged.now c.loop-i.self c.loop-i.logged c.loop-i.i c.loop-i.invariant
    c.next_request.new.self came.0 came.1 n.sent n.turns came.2

pub unreachable-requires : goal.unreachable-requires
unreachable-requires g c =
    let L = g.L.Link in
    let H = g.H.Handler in
    let n = c.next_request.ensures in
    let came = rw c.in-Ok-Full.field-0-is at c.in-Ok-Full.ensures.comes in
    never_full H.does H.stops L.received L.sent L.turns L.failures L.ends L.waits c.args.self.now c.args.logged.now c.loop-i.self c.loop-i.logged c.loop-i.i c.loop-i.invariant
    c.next_request.new.self came.0 came.1 n.sent n.turns came.2

pub returns-in-Err-clause-served : goal.returns-in-Err-clause-served
returns-in-Err-clause-served g c =
    let L = g.L.Link in
    let H = g.H.Handler in
    let n = c.next_request.ensures in
    let came = c.in-Err.ensures.comes in
    rw c.from.ensures (ends_fault H.does H.stops L.received L.sent L.turns L.failures L.ends L.waits c.args.self.now c.args.logged.now c.loop-i.self c.loop-i.logged c.loop-i.i c.loop-i.invariant
    c.next_request.new.self came.0 came.1 n.sent n.turns c.args.budget c.in-Err.fault c.loop-i-test.true came.2 c.in-Err.ensures.fails)

pub returns-in-Err-clause-ran : goal.returns-in-Err-clause-ran
returns-in-Err-clause-ran g c =
    let L = g.L.Link in
    let H = g.H.Handler in
    let n = c.next_request.ensures in
    ran_so H.does H.stops L.received L.sent L.turns L.failures L.ends L.waits c.args.self.now c.args.logged.now c.loop-i.self c.loop-i.logged c.loop-i.i c.loop-i.invariant
    c.next_request.new.self n.comes.0 n.comes.1 n.sent n.turns

pub returns-in-Err-clause-stands : goal.returns-in-Err-clause-stands
returns-in-Err-clause-stands g c =
    let L = g.L.Link in
    let H = g.H.Handler in
    let n = c.next_request.ensures in
    let came = c.in-Err.ensures.comes in
    rw c.from.ensures (stands_fault H.does H.stops L.received L.sent L.turns L.failures L.ends L.waits c.args.self.now c.args.logged.now c.loop-i.self c.loop-i.logged c.loop-i.i c.loop-i.invariant
    c.next_request.new.self came.0 came.1 n.sent n.turns c.in-Err.fault came.2)

-- ---- a request

pub returns-in-Err-answer_first-clause-served : goal.returns-in-Err-answer_first-clause-served
returns-in-Err-answer_first-clause-served g c =
    let L = g.L.Link in
    let H = g.H.Handler in
    let n = c.next_request.ensures in
    let came = rw c.in-Ok-Waits.field-0-is at c.in-Ok-Waits.ensures.comes in
    let later = rw c.in-Ok-Waits.field-0-is at c.in-Ok-Waits.ensures.later in
    let waits = asked H.does H.stops L.received L.sent L.turns L.failures L.ends L.waits c.args.self.now c.args.logged.now c.loop-i.self c.loop-i.logged c.loop-i.i c.loop-i.invariant
    c.next_request.new.self came.0 came.1 n.sent n.turns came.2 later c.in-Ok-Waits.ensures.fails in
    let a = c.answer_first.ensures in
    let x = c.in-Err-answer_first.ensures.answered waits.request waits.alone in
    ends_unanswered H.does H.stops L.received L.sent L.turns L.failures L.ends L.waits c.args.self.now c.args.logged.now c.next_request.new.self c.loop-i.logged c.loop-i.i waits
    c.answer_first.new.self c.answer_first.new.logged a.ran a.inlet a.received a.turns a.end c.args.budget c.in-Err-answer_first.end x.0 c.loop-i-test.true x.1 x.2
    c.in-Err-answer_first.ensures.later

pub returns-in-Err-answer_first-clause-ran : goal.returns-in-Err-answer_first-clause-ran
returns-in-Err-answer_first-clause-ran g c =
    let L = g.L.Link in
    let H = g.H.Handler in
    let n = c.next_request.ensures in
    let came = rw c.in-Ok-Waits.field-0-is at c.in-Ok-Waits.ensures.comes in
    let later = rw c.in-Ok-Waits.field-0-is at c.in-Ok-Waits.ensures.later in
    let waits = asked H.does H.stops L.received L.sent L.turns L.failures L.ends L.waits c.args.self.now c.args.logged.now c.loop-i.self c.loop-i.logged c.loop-i.i c.loop-i.invariant
    c.next_request.new.self came.0 came.1 n.sent n.turns came.2 later c.in-Ok-Waits.ensures.fails in
    let a = c.answer_first.ensures in
    ran_through H.does H.stops L.received L.sent L.turns L.failures L.ends L.waits c.args.self.now c.args.logged.now c.next_request.new.self c.loop-i.logged c.loop-i.i waits
    c.answer_first.new.self c.answer_first.new.logged a.ran a.inlet a.received a.turns a.end

pub returns-in-Err-answer_first-clause-stands : goal.returns-in-Err-answer_first-clause-stands
returns-in-Err-answer_first-clause-stands g c =
    let L = g.L.Link in
    let H = g.H.Handler in
    let n = c.next_request.ensures in
    let came = rw c.in-Ok-Waits.field-0-is at c.in-Ok-Waits.ensures.comes in
    let later = rw c.in-Ok-Waits.field-0-is at c.in-Ok-Waits.ensures.later in
    let waits = asked H.does H.stops L.received L.sent L.turns L.failures L.ends L.waits c.args.self.now c.args.logged.now c.loop-i.self c.loop-i.logged c.loop-i.i c.loop-i.invariant
    c.next_request.new.self came.0 came.1 n.sent n.turns came.2 later c.in-Ok-Waits.ensures.fails in
    c.in-Err-answer_first.ensures.stands waits.alone.is_open

pub loop-i-preserved : goal.loop-i-preserved
loop-i-preserved g c =
    let L = g.L.Link in
    let H = g.H.Handler in
    let n = c.next_request.ensures in
    let came = rw c.in-Ok-Waits.field-0-is at c.in-Ok-Waits.ensures.comes in
    let later = rw c.in-Ok-Waits.field-0-is at c.in-Ok-Waits.ensures.later in
    let waits = asked H.does H.stops L.received L.sent L.turns L.failures L.ends L.waits c.args.self.now c.args.logged.now c.loop-i.self c.loop-i.logged c.loop-i.i c.loop-i.invariant
    c.next_request.new.self came.0 came.1 n.sent n.turns came.2 later c.in-Ok-Waits.ensures.fails in
    let a = c.answer_first.ensures in
    let x = c.in_default.ensures.answered waits.request waits.alone in
    rests_again H.does H.stops L.received L.sent L.turns L.failures L.ends L.waits c.args.self.now c.args.logged.now c.next_request.new.self c.loop-i.logged c.loop-i.i waits
    c.answer_first.new.self c.answer_first.new.logged a.ran a.inlet a.received a.turns a.end x.0 x.1 x.2 (c.in_default.ensures.others waits.request waits.alone) c.in_default.ensures.later

-- ---- the budget is spent

pub returns-clause-served : goal.returns-clause-served
returns-clause-served g c =
    let L = g.L.Link in
    let H = g.H.Handler in
    let all : c.loop-i.i ≡ c.args.budget = omega arith in
    ends_spent H.does H.stops L.received L.sent L.turns L.failures L.ends L.waits c.args.self.now c.args.logged.now c.loop-i.self c.loop-i.logged c.loop-i.i c.args.budget c.loop-i.invariant all

pub returns-clause-ran : goal.returns-clause-ran
returns-clause-ran g c = c.loop-i.invariant.ran

pub returns-clause-stands : goal.returns-clause-stands
returns-clause-stands g c = ap (λ (s : ServerView). s.state) c.loop-i.invariant.same
