use Rattle.std.proofs.Common.{◌≡◌, ap, refl, sym, Some, is_some, take}
use Rattle.wire_share.specs.Acts.{Sends}
use Rattle.wire_share.specs.Cores.{core_seen}
use Rattle.wire_share.proofs.Moves.{moves, sent_so, unmoved}
use Rattle.wire_share.proofs.state.State.sent.Goals as goal

pub returns-then-n-output-clause-run : goal.returns-then-n-output-clause-run
returns-then-n-output-clause-run c =
    let old = core_seen c.args.self.now in
    let at : old.downs c.args.number ≡ Some c.in-Some.client.now = sym c.in-Some.ensures.value in
    unmoved old _ c.args.number c.in-Some.client.now at ((c.get_mut.follows.holds c.in-Some.client.now).3 (ap is_some at)).0

pub returns-clause-run : goal.returns-clause-run
returns-clause-run c =
    let old = core_seen c.args.self.now in
    let x = c.in-Some.client.now in
    let at : old.downs c.args.number ≡ Some x = sym c.in-Some.ensures.value in
    moves old _ c.args.number x _ (Sends (take c.args.n x.downstream.conn.output)) at ((c.get_mut.follows.holds _).3 (ap is_some at)).0 refl
    (sent_so c.args.n x.downstream c.sent.new.self c.sent.ensures)
