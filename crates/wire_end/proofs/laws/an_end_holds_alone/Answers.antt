use Rattle.wire_end.proofs.laws.an_end_holds_alone.Goals as goal

pub returns : goal.returns
returns g c = λ connection limit window first_id link acts new ran.
    c.a_client_holds_alone.ensures connection limit window first_id acts new.own ran.are_bytes ran.run
