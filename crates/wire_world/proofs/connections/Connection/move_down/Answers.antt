use Rattle.wire_world.specs.Records.{records_of}
use Rattle.wire_world.proofs.DownLoops.{down_err, down_ok}
use Rattle.wire_world.proofs.connections.Connection.move_down.Goals as goal

pub returns-in-Ok : goal.returns-in-Ok
returns-in-Ok c = down_ok (Unit {0}) c.args.self.now c.self.inside.client c.in-Some.client c.pass_down.new.client c.self.inside.server c.pass_down.new.server c.self.inside.calls.items c.self.inside.up_cut c.self.inside.down_cut c.args.n c.in-Ok.moved
    (records_of c.args.calls.now) (records_of c.pass_down.new.calls) c.self.view_is c.in-Some.is (rw c.deref.ensures.value at c.in-Ok.ensures)

pub returns-in-Err : goal.returns-in-Err
returns-in-Err c = rw (c.end-in-Err.ensures, c.end.ensures) (down_err _ c.in-Err.field-0 c.args.self.now c.self.inside.client c.in-Some.client c.pass_down.new.client c.self.inside.server c.pass_down.new.server c.self.inside.calls.items
    c.self.inside.up_cut c.self.inside.down_cut c.args.n (records_of c.args.calls.now) (records_of c.pass_down.new.calls) c.self.view_is c.in-Some.is (rw c.deref.ensures.value at c.in-Err.ensures))
