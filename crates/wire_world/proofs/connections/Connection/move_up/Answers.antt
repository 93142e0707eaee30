use Rattle.wire_world.proofs.UpLoops.{up_whole}
use Rattle.wire_world.proofs.connections.Connection.move_up.Goals as goal

pub returns : goal.returns
returns c = up_whole c.args.self.now c.self.inside.client c.in-Some.client _ _ _ _ _ _ c.args.n _ c.self.view_is c.in-Some.is c.pass_up.ensures
