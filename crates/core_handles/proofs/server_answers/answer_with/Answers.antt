use Rattle.std.proofs.Common.{Ok, Err, subst, sym, refl, ℕ}
use Rattle.wire_peer.specs.{answers_of, asked, asked_by, log_of}
use Rattle.core_handles.specs.Serving.{IsAnswered, bad_count}
use Rattle.core_handles.proofs.Serving.{answered_by, is_counted, is_not_counted}
use Rattle.core_handles.proofs.server_answers.answer_with.Goals as goal

pub returns-then-not-is_count : goal.returns-then-not-is_count
returns-then-not-is_count c =
    λ m at. bad_count (is_not_counted c.is_count.result (asked c.in-Some.request) (asked_by m) c.len.result _ c.is_count.ensures c.if-not-is_count.true (c.in-Some.ensures.shown m at) c.len.ensures) refl refl

pub returns-in-Ok : goal.returns-in-Ok
returns-in-Ok c =
    λ m at.
    answered_by c.args.answers c.new-logged.result.handler c.args.k (Ok c.in-Ok.field-0) c.args.server.now m (log_of c.new-logged.result.entries.items) c.answer.new.self c.answer.new.logged.handler
    (log_of c.answer.new.logged.entries.items) c.new-logged.ensures.handler c.requires.open c.requires.waits at
    (is_counted c.is_count.result (asked c.in-Some.request) (asked_by m) c.len.result _ c.is_count.ensures c.if-not-is_count.false (c.in-Some.ensures.shown m at) c.len.ensures) c.in-Ok.ensures

pub returns : goal.returns
returns c =
    λ m at.
    subst (λ (n : ℕ). IsAnswered c.args.server.now c.args.k m (answers_of c.args.answers) c.answer.new.self n) (sym c.answer_number.ensures)
    (answered_by c.args.answers c.new-logged.result.handler c.args.k (Err c.in-Err.refusal) c.args.server.now m (log_of c.new-logged.result.entries.items) c.answer.new.self c.answer.new.logged.handler
    (log_of c.answer.new.logged.entries.items) c.new-logged.ensures.handler c.requires.open c.requires.waits at
    (is_counted c.is_count.result (asked c.in-Some.request) (asked_by m) c.len.result _ c.is_count.ensures c.if-not-is_count.false (c.in-Some.ensures.shown m at) c.len.ensures) c.in-Err.ensures)
