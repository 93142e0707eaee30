use Rattle.wire_model.specs.{deeds_of, first_servers_of, opened_in}
use Rattle.wire_model.proofs.Lemmas.{grown, grown_beside, know, short_limit}
use Rattle.wire_end.proofs.laws.programs_know.Goals as goal

pub returns : goal.returns
returns g t = λ limit first made turns links clients servers is good runs grew arrive.
    let does = g.H.Handler.does in
    let stops = g.H.Handler.stops in
    know _ does stops limit (short_limit limit is) first made good (opened_in turns) (deeds_of turns) (λ c. (clients c).own) servers (λ c. (runs c).run)
    (grown _ does stops limit made first turns servers
    (grown_beside _ does stops limit made turns (first_servers_of limit made 0 first) servers grew)) arrive
