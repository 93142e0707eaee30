use Rattle.std.proofs.Common.{◌≡◌, ap, refl, sym, Some, is_some}
use Rattle.wire_share.specs.Cores.{core_seen}
use Rattle.wire_share.proofs.Up_moves.{fed_run, fed_up, server_kept, unmoved}
use Rattle.wire_share.proofs.state.State.take_up.Goals as goal

pub returns-then-not-may_take-clause-run : goal.returns-then-not-may_take-clause-run
returns-then-not-may_take-clause-run c =
    let old = core_seen c.args.self.now in
    let y = c.in-Some.server.now in
    let at : old.ups c.args.upstream ≡ Some y = sym c.in-Some.ensures.value in
    unmoved old _ c.args.upstream y y at ((c.get_mut.follows.holds y).3 (ap is_some at)).0 refl

pub returns-clause-run : goal.returns-clause-run
returns-clause-run c =
    let old = core_seen c.args.self.now in
    let y = c.in-Some.server.now in
    let at : old.ups c.args.upstream ≡ Some y = sym c.in-Some.ensures.value in
    let puts = ((c.get_mut.follows.holds _).3 (ap is_some at)).0 in
    fed_run c.feed.result old _ c.args.upstream y _ c.args.piece.now at puts
    (fed_up c.feed.result old _ c.args.upstream y _ c.args.piece.now at puts c.feed.ensures.bytes (c.may_take.ensures.yes c.if-not-may_take.false) c.feed.ensures.takes c.feed.ensures.number refl)
    (server_kept c.feed.result y _ c.feed.ensures.unchanged)

pub returns-clause-taken : goal.returns-clause-taken
returns-clause-taken c =
    let old = core_seen c.args.self.now in
    let y = c.in-Some.server.now in
    let at : old.ups c.args.upstream ≡ Some y = sym c.in-Some.ensures.value in
    let puts = ((c.get_mut.follows.holds _).3 (ap is_some at)).0 in
    let taken = fed_up c.feed.result old _ c.args.upstream y _ c.args.piece.now at puts c.feed.ensures.bytes (c.may_take.ensures.yes c.if-not-may_take.false) c.feed.ensures.takes c.feed.ensures.number refl in
    λ y' at' may. taken
