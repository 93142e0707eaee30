use Rattle.std.proofs.Common.{ap}
use Rattle.wire_world.specs.Worlds.{WorldSeen}
use Rattle.wire_world.proofs.Arms.{comes_dropped, comes_kept}
use Rattle.wire_world.proofs.Found.{at_place}
use Rattle.wire_world.proofs.worlds.World.give_back.Goals as goal

pub returns-in-Kept-clause-state : goal.returns-in-Kept-clause-state
returns-in-Kept-clause-state g c =
    comes_kept c.args.number c.index-connection.result.now c.is_healthy-healthy.result c.check_in.result c.check_in.new.self c.self.view_is c.requires.passes (at_place _ c.index-connection.result.now c.requires.place c.index-connection.ensures) c.is_healthy-healthy.ensures c.in-Kept.is c.check_in.ensures

pub returns-in-Dropped-clause-state : goal.returns-in-Dropped-clause-state
returns-in-Dropped-clause-state g c =
    comes_dropped c.args.number c.index-connection.result.now c.is_healthy-healthy.result c.check_in.result c.check_in.new.self c.drop_connection.new.self.state c.self.view_is c.requires.passes (at_place _ c.index-connection.result.now c.requires.place c.index-connection.ensures) c.is_healthy-healthy.ensures c.in-Dropped.is c.check_in.ensures
    (ap (λ (w : WorldSeen g.row.H.Denot). w.state) c.drop_connection.ensures)
