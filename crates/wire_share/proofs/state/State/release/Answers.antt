use Rattle.std.proofs.Common.{◌≡◌, ◌∙◌, ap, not, refl, sym, Some, is_some}
use Rattle.wire_share.specs.Cores.{core_seen}
use Rattle.wire_share.proofs.Up_moves.{releases_run, unmoved}
use Rattle.wire_share.proofs.state.State.release.Goals as goal

pub returns-then-is_none-clause-run : goal.returns-then-is_none-clause-run
returns-then-is_none-clause-run c =
    let old = core_seen c.args.self.now in
    let y = c.in-Some.server.now in
    let at : old.ups c.args.upstream ≡ Some y = sym c.in-Some.ensures.value in
    unmoved old _ c.args.upstream y y at ((c.get_mut.follows.holds y).3 (ap is_some at)).0 refl

pub returns-clause-run : goal.returns-clause-run
returns-clause-run c =
    let old = core_seen c.args.self.now in
    let y = c.in-Some.server.now in
    let at : old.ups c.args.upstream ≡ Some y = sym c.in-Some.ensures.value in
    releases_run c.reply.result old _ c.args.upstream y _ at ((c.get_mut.follows.holds _).3 (ap is_some at)).0 (c.is_none.ensures ∙ ap not c.if-is_none.false)
    c.reply.ensures.ready c.reply.ensures.message c.release.ensures refl
