use Rattle.std.proofs.Common.{◌≡◌, w32, to_z, of_z}
use Rattle.wire_peer.specs.Logs.{log_of}
use Rattle.wire_peer.specs.AnswerLists.{answers_of}
use Rattle.wire_peer.specs.Replying.{PutStep}
use Rattle.wire_peer.specs.Requests.{asked}
use Rattle.std.proofs.Common.{ap, subst, ◌∙◌}
use mir.ValLaws.{to_z-of_z}
use Rattle.std.specs.Int.{w32}
use Rattle.std.specs.Prelude.{Err, Ok}
use Rattle.wire_peer.proofs.LogLaws.{not_replied}
use Rattle.wire_peer.specs.Replying.{IsAnswered, PutStep}
use Rattle.wire_peer.proofs.log.Logged.reply.Goals as goal

pub returns-in_err-put_replies-clause-step : goal.returns-in_err-put_replies-clause-step
returns-in_err-put_replies-clause-step g c =
    let q = c.in_ok-ask.ensures.step in
    let same = c.last_answers.ensures (log_of c.args.self.now.entries.items) c.args.connection (asked c.args.request.now) q.0 (ap log_of c.deref.ensures.value ∙ q.3) in
    let to : to_z w32 (of_z w32 c.args.id) ≡ c.args.id = to_z-of_z w32 c.args.id c.ranges.id in
    let was : IsAnswered g.H.Handler.does c.args.connection (asked c.args.request.now) q.0 c.args.self.now.handler (log_of c.args.self.now.entries.items) c.ask.new.self.handler (log_of c.ask.new.self.entries.items)
    = record { answered = q.1; count = q.2; entry = q.3 } in
    let told : PutStep (to_z w32 (of_z w32 c.args.id)) (asked c.args.request.now) (answers_of c.last_answers.result.now) (Err c.in_err-put_replies.field-0.0) c.args.replies.now c.put_replies.new.replies = c.in_err-put_replies.ensures in
    let step : PutStep c.args.id (asked c.args.request.now) q.0 (Err c.in_err-put_replies.field-0.0) c.args.replies.now c.put_replies.new.replies =
    subst (λ t. PutStep t (asked c.args.request.now) q.0 (Err c.in_err-put_replies.field-0.0) c.args.replies.now c.put_replies.new.replies) to
    (subst (λ list. PutStep (to_z w32 (of_z w32 c.args.id)) (asked c.args.request.now) list (Err c.in_err-put_replies.field-0.0) c.args.replies.now c.put_replies.new.replies) same told) in
    not_replied g.H.Handler.does g.H.Handler.stops c.args.connection c.args.id (asked c.args.request.now) q.0 c.args.self.now.handler c.ask.new.self.handler
    (log_of c.args.self.now.entries.items) (log_of c.ask.new.self.entries.items) c.args.replies.now c.put_replies.new.replies c.in_err-put_replies.field-0.0 c.from_residual-in_err-put_replies.result
    was step c.from_residual-in_err-put_replies.ensures.1

pub returns-clause-step : goal.returns-clause-step
returns-clause-step g c =
    let q = c.in_ok-ask.ensures.step in
    let same = c.last_answers.ensures (log_of c.args.self.now.entries.items) c.args.connection (asked c.args.request.now) q.0 (ap log_of c.deref.ensures.value ∙ q.3) in
    let to : to_z w32 (of_z w32 c.args.id) ≡ c.args.id = to_z-of_z w32 c.args.id c.ranges.id in
    let was : IsAnswered g.H.Handler.does c.args.connection (asked c.args.request.now) q.0 c.args.self.now.handler (log_of c.args.self.now.entries.items) c.ask.new.self.handler (log_of c.ask.new.self.entries.items)
    = record { answered = q.1; count = q.2; entry = q.3 } in
    let told : PutStep (to_z w32 (of_z w32 c.args.id)) (asked c.args.request.now) (answers_of c.last_answers.result.now) (Ok c.in_ok-put_replies.field-0) c.args.replies.now c.put_replies.new.replies = c.in_ok-put_replies.ensures in
    let step : PutStep c.args.id (asked c.args.request.now) q.0 (Ok c.in_ok-put_replies.field-0) c.args.replies.now c.put_replies.new.replies =
    subst (λ t. PutStep t (asked c.args.request.now) q.0 (Ok c.in_ok-put_replies.field-0) c.args.replies.now c.put_replies.new.replies) to
    (subst (λ list. PutStep (to_z w32 (of_z w32 c.args.id)) (asked c.args.request.now) list (Ok c.in_ok-put_replies.field-0) c.args.replies.now c.put_replies.new.replies) same told) in
    (q.0, was, step.0, step.1)
