use Rattle.std.proofs.Common.{◌≡◌, ap, refl, sym, Some, is_some}
use Rattle.wire_share.specs.Acts.{EndsUp}
use Rattle.wire_share.specs.Cores.{Shares, core_seen}
use Rattle.wire_share.proofs.Runs.{one_act}
use Rattle.wire_share.proofs.Up_moves.{ends_up}
use Rattle.wire_share.proofs.state.State.end_up.Goals as goal

pub returns-clause-run : goal.returns-clause-run
returns-clause-run c =
    let old = core_seen c.args.self.now in
    let y = c.in-Some.server.now in
    let at : old.ups c.args.upstream ≡ Some y = sym c.in-Some.ensures.value in
    one_act (Shares (EndsUp c.args.upstream)) old _ (ends_up old _ c.args.upstream y _ at ((c.get_mut.follows.holds _).3 (ap is_some at)).0 c.end.ensures refl)
