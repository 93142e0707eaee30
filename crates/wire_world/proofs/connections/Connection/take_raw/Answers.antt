use Rattle.wire_world.proofs.RawLoops.{raw_whole}
use Rattle.wire_world.proofs.connections.Connection.take_raw.Goals as goal

pub returns : goal.returns
returns c = raw_whole c.args.self.now c.self.inside.client _ _ _ _ _ _ _ c.self.view_is c.requires c.pass_raw.ensures
