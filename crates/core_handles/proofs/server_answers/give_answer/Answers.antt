use Rattle.std.proofs.Common.{refl, sym, ◌∙◌, arith}
use Rattle.core_handles.specs.Serving.{is_closed, no_answers, no_request}
use Rattle.core_handles.proofs.Serving.{a_message, given_told}
use Rattle.core_handles.proofs.server_answers.give_answer.Goals as goal

pub returns-in_default : goal.returns-in_default
returns-in_default c = is_closed (λ opened. c.in_default.not-Open (c.state.ensures.state ∙ opened)) refl c.by_number.ensures

pub returns-then-k-waiting : goal.returns-then-k-waiting
returns-then-k-waiting c = no_request (sym c.state.ensures.state ∙ c.in-Open.is) (omega (arith, c.waiting.ensures.count)) refl c.by_number-then-k-waiting.ensures

pub returns-in-Ok : goal.returns-in-Ok
returns-in-Ok c =
    let s = c.args.server.now in
    let m = a_message s.limit c.args.k s c.waiting.ensures.each (omega (arith, c.waiting.ensures.count)) in
    given_told s c.args.k c.args.documents.now c.answer_with.new.server m.0 c.in-Ok.answers c.answer_with.result c.by_number-in-Ok.result (sym c.state.ensures.state ∙ c.in-Open.is) m.1 c.in-Ok.ensures
    (c.answer_with.ensures m.0 m.1) c.by_number-in-Ok.ensures

pub returns-in-Err : goal.returns-in-Err
returns-in-Err c = no_answers c.in-Err.why (sym c.state.ensures.state ∙ c.in-Open.is) (omega (arith, c.waiting.ensures.count)) c.in-Err.ensures refl c.of_documents.ensures
