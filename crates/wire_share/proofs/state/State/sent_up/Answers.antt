use Rattle.std.proofs.Common.{◌≡◌, ◌≤◌, ap, refl, sym, Some, is_some, length, take, drop, take-append-drop}
use Rattle.wire_share.specs.Acts.{SendsUp}
use Rattle.wire_share.specs.declared.server.Server.{Server}
use Rattle.wire_share.specs.Cores.{CoreDoes, Shares, core_seen}
use Rattle.wire_share.proofs.Moves.{of_row}
use Rattle.wire_share.proofs.Runs.{one_act}
use Rattle.wire_share.proofs.Up_moves.{sends_up, unmoved}
use Rattle.wire_share.proofs.state.State.sent_up.Goals as goal

pub returns-then-n-output-clause-run : goal.returns-then-n-output-clause-run
returns-then-n-output-clause-run c =
    let old = core_seen c.args.self.now in
    let y = c.in-Some.server.now in
    let at : old.ups c.args.upstream ≡ Some y = sym c.in-Some.ensures.value in
    unmoved old _ c.args.upstream y y at ((c.get_mut.follows.holds y).3 (ap is_some at)).0 refl

pub returns-clause-run : goal.returns-clause-run
returns-clause-run c =
    let old = core_seen c.args.self.now in
    let y = c.in-Some.server.now in
    let at : old.ups c.args.upstream ≡ Some y = sym c.in-Some.ensures.value in
    let output = y.upstream.client.requests.output in
    one_act (Shares (SendsUp c.args.upstream (take c.args.n output))) old _
    (sends_up old _ c.args.upstream y _ at ((c.get_mut.follows.holds _).3 (ap is_some at)).0 (take c.args.n output) (drop c.args.n output) (sym (take-append-drop c.args.n output)) c.sent.ensures refl)

pub returns-clause-sent : goal.returns-clause-sent
returns-clause-sent c =
    let old = core_seen c.args.self.now in
    let y = c.in-Some.server.now in
    let at : old.ups c.args.upstream ≡ Some y = sym c.in-Some.ensures.value in
    let output = y.upstream.client.requests.output in
    of_row (λ (z : Server). c.args.n ≤ length z.upstream.client.requests.output → CoreDoes (Shares (SendsUp c.args.upstream (take c.args.n z.upstream.client.requests.output))) old _)
    (old.ups c.args.upstream) y at
    (λ within. sends_up old _ c.args.upstream y _ at ((c.get_mut.follows.holds _).3 (ap is_some at)).0 (take c.args.n output) (drop c.args.n output) (sym (take-append-drop c.args.n output)) c.sent.ensures refl)
