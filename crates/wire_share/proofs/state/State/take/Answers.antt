use Rattle.std.proofs.Common.{◌≡◌, ap, refl, sym, Some, is_some}
use Rattle.wire_share.specs.Cores.{core_seen}
use Rattle.wire_share.proofs.Moves.{fed, moves, takes_fed, unmoved}
use Rattle.wire_share.proofs.state.State.take.Goals as goal

pub returns-then-not-is_ready-clause-run : goal.returns-then-not-is_ready-clause-run
returns-then-not-is_ready-clause-run c =
    let old = core_seen c.args.self.now in
    let at : old.downs c.args.number ≡ Some c.in-Some.client.now = sym c.in-Some.ensures.value in
    unmoved old _ c.args.number c.in-Some.client.now at ((c.get_mut.follows.holds c.in-Some.client.now).3 (ap is_some at)).0

pub returns-clause-run : goal.returns-clause-run
returns-clause-run c =
    let old = core_seen c.args.self.now in
    let x = c.in-Some.client.now in
    let at : old.downs c.args.number ≡ Some x = sym c.in-Some.ensures.value in
    let ready = c.is_ready.ensures.yes c.if-not-is_ready.false in
    let move = fed c.feed.result c.args.piece.now x.downstream c.feed.new.self ready (c.feed.ensures.taken ready) c.feed.ensures.awaited c.feed.ensures.unchanged in
    moves old _ c.args.number x _ move.0 at ((c.get_mut.follows.holds _).3 (ap is_some at)).0 refl move.1

pub returns-clause-taken : goal.returns-clause-taken
returns-clause-taken c =
    let old = core_seen c.args.self.now in
    let x = c.in-Some.client.now in
    let at : old.downs c.args.number ≡ Some x = sym c.in-Some.ensures.value in
    let ready = c.is_ready.ensures.yes c.if-not-is_ready.false in
    let taken = takes_fed c.feed.result old _ c.args.number x _ c.args.piece.now at ((c.get_mut.follows.holds _).3 (ap is_some at)).0 refl ready (c.feed.ensures.taken ready) c.feed.ensures.awaited in
    λ x' at' ready'. taken
