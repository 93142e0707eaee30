use Rattle.client_examples.proofs.Moving.{unchanged, was_called}
use Rattle.client_examples.proofs.pair.ends.Ends.call.Goals as goal

pub returns-in-Ok : goal.returns-in-Ok
returns-in-Ok g c =
    let H = g.H.Handler in
    let old = c.args.self.now in
    let is = c.in-Ok.ensures.called in
    let r = c.in_ok-record.record in
    was_called H.does H.stops old (record old { calls = c.push_reserved.new.self }) c.args.kind c.args.payload c.in-Ok.field-0 c.call_as.new.client r _ is.0 is.1
    c.in_ok-record.ensures c.in_ok-try_reserve.ensures.items c.push_reserved.ensures.items

pub returns-in-Err : goal.returns-in-Err
returns-in-Err g c =
    let H = g.H.Handler in
    let old = c.args.self.now in
    unchanged H.does H.stops old (record old { calls = c.try_reserve.new.self }) c.call_as.new.client c.in-Err.ensures.unchanged c.in_ok-try_reserve.ensures.items
