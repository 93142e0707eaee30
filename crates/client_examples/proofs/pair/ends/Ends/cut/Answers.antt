use Rattle.client_examples.proofs.Moving.{cut_down, cut_up, moves_on}
use Rattle.client_examples.proofs.pair.ends.Ends.cut.Goals as goal

pub returns : goal.returns
returns g c =
    let H = g.H.Handler in
    let old = c.args.self.now in
    let mid = record old { up = c.cut.new.self } in
    moves_on H.does H.stops old mid (record mid { down = c.cut-2.new.self })
    (cut_up H.does H.stops old c.cut.new.self c.cut.ensures) (cut_down H.does H.stops mid c.cut-2.new.self c.cut-2.ensures)
