use Rattle.std.proofs.Common.{rules}
use Rattle.std.specs.Vec.{with_items}
use Rattle.std.proofs.lemmas.List.{places, with_items_is}
use Rattle.client_examples.proofs.Moving.{ended_down, ended_up, moves_on}
use Rattle.client_examples.proofs.pair.ends.Ends.end.Goals as goal

pub returns : goal.returns
returns g c =
    let H = g.H.Handler in
    let old = c.args.self.now in
    let mid = record old { server = c.end.new.self } in
    let f = record mid { calls = with_items old.calls c.lose_all.new.records } in
    moves_on H.does H.stops old mid (record mid { client = c.end-2.new.self; calls = f.calls })
    (ended_up H.does H.stops old c.end.new.self c.end.ensures)
    (ended_down H.does H.stops mid f c.end-2.new.self _ _ c.end-2.ensures
    c.deref_mut.ensures.value c.lose_all.ensures (with_items_is old.calls c.lose_all.new.records (search (rules, places))))
