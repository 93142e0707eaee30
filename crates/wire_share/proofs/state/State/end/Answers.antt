use Rattle.std.proofs.Common.{◌≡◌, ap, refl, sym, Some, is_some}
use Rattle.wire_share.specs.Acts.{Ends}
use Rattle.wire_share.specs.Cores.{core_seen}
use Rattle.wire_share.proofs.Moves.{moves}
use Rattle.wire_share.proofs.state.State.end.Goals as goal

pub returns-clause-run : goal.returns-clause-run
returns-clause-run c =
    let old = core_seen c.args.self.now in
    let x = c.in-Some.client.now in
    let at : old.downs c.args.number ≡ Some x = sym c.in-Some.ensures.value in
    moves old _ c.args.number x _ Ends at ((c.get_mut.follows.holds _).3 (ap is_some at)).0 refl c.end.ensures
