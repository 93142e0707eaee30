use Rattle.std.proofs.Common.{[], ◌∷◌, ◌++◌}
use Rattle.wire_peer.specs.Logs.{log_of}
use Rattle.wire_peer.specs.Requests.{asked}
use Rattle.std.proofs.Common.{ap, ◌∙◌, ◌++◌, ◌∷◌, subst}
use Rattle.wire_peer.proofs.LogLaws.{asked_step, log_of-push, same_entry}
use Rattle.wire_peer.specs.Logs.{OutcomeStep, entered, outcome_of}
use Rattle.wire_peer.specs.Contents.{buf_content}
use Rattle.wire_peer.proofs.log.Logged.ask.Goals as goal

pub returns-in_default-clause-step : goal.returns-in_default-clause-step
returns-in_default-clause-step g c = (c.in_default.ensures.handler, ap log_of c.in_default.ensures.entries)

pub returns-clause-step : goal.returns-clause-step
returns-clause-step g c =
    let o = outcome_of c.outcome_from-outcome.result.0 in
    let step = subst (λ h. OutcomeStep g.H.Handler.does g.H.Handler.stops (asked c.args.request.now) o c.outcome_from-outcome.result.1 h c.outcome_from-outcome.new.handler) c.room_for.ensures.handler c.outcome_from-outcome.ensures in
    asked_step g.H.Handler.does g.H.Handler.stops c.args.connection (asked c.args.request.now) o c.outcome_from-outcome.result.1 c.args.self.now.handler c.outcome_from-outcome.new.handler
    (log_of c.args.self.now.entries.items) (log_of c.push_reserved.new.self.items) step
    (ap log_of c.push_reserved.ensures.items ∙ log_of-push c.room_for.new.self.entries.items _
    ∙ ap (λ e. log_of c.room_for.new.self.entries.items ++ e ∷ []) (same_entry c.args.connection (asked c.args.request.now) o (buf_content c.in-Ok.payload) c.in-Ok.ensures.payload)
    ∙ ap (λ es. log_of es ++ entered c.args.connection (asked c.args.request.now) o ∷ []) c.room_for.ensures.entries)
