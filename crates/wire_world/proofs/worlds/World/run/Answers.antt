use Rattle.wire_world.proofs.Claims.{entries_of, goes_on_of, ids_of, quiet_of, replies_of, shown_of, uncut_of}
use Rattle.wire_world.proofs.worlds.World.run.Goals as goal

pub returns-clause-headline : goal.returns-clause-headline
returns-clause-headline g c = shown_of _ g.H.Handler.does g.H.Handler.stops c.args.limits c.args.handler c.args.events.now c.run_events.result c.run_events.ensures

pub returns-clause-goes_on : goal.returns-clause-goes_on
returns-clause-goes_on g c = goes_on_of _ g.H.Handler.does g.H.Handler.stops c.args.limits c.args.handler c.args.events.now c.run_events.result c.run_events.ensures

pub returns-clause-quiet : goal.returns-clause-quiet
returns-clause-quiet g c = quiet_of _ g.H.Handler.does g.H.Handler.stops c.args.limits c.args.handler c.args.events.now c.run_events.result c.run_events.ensures

pub returns-clause-uncut : goal.returns-clause-uncut
returns-clause-uncut g c = uncut_of _ g.H.Handler.does g.H.Handler.stops c.args.limits c.args.handler c.args.events.now c.run_events.result c.run_events.ensures

pub returns-clause-ids : goal.returns-clause-ids
returns-clause-ids g c = ids_of _ g.H.Handler.does g.H.Handler.stops c.args.limits c.args.handler c.args.events.now c.run_events.result c.run_events.ensures

pub returns-clause-entries : goal.returns-clause-entries
returns-clause-entries g c = entries_of _ g.H.Handler.does g.H.Handler.stops c.args.limits c.args.handler c.args.events.now c.run_events.result c.run_events.ensures

pub returns-clause-replies : goal.returns-clause-replies
returns-clause-replies g c = replies_of _ g.H.Handler.does g.H.Handler.stops c.args.limits c.args.handler c.args.events.now c.run_events.result c.run_events.ensures
