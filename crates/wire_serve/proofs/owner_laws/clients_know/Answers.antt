use Rattle.std.proofs.Common.{List, ◌≤◌, subst, sym, arith}
use Rattle.wire_model.specs.{ServersGrow, Turn, deeds_of, first_servers_of, opened_in}
use Rattle.wire_model.proofs.Lemmas.{grown_beside}
use Rattle.wire_serve.proofs.Beside.{grown_alone}
use Rattle.wire_serve.proofs.owner_laws.clients_know.Goals as goal
use Rattle.wire_msg.specs.declared.header.TheConstants.{MAX_MESSAGE_LEN}

pub returns : goal.returns
returns g c = λ made first acts conns owned strange turns ends good same runs arrive.
    let does = g.H.Handler.does in
    let stops = g.H.Handler.stops in
    let at_first = first_servers_of MAX_MESSAGE_LEN made 0 first in
    let least : 26 ≤ MAX_MESSAGE_LEN = omega arith in
    let most : MAX_MESSAGE_LEN ≤ MAX_MESSAGE_LEN = omega arith in
    c.strangers_disturb_none.ensures MAX_MESSAGE_LEN (opened_in turns) first made strange (deeds_of turns) ends owned.servers
    (least, most) good runs
    (c.servers_may_come.ensures MAX_MESSAGE_LEN first made turns owned.servers
    (grown_beside _ does stops MAX_MESSAGE_LEN made turns at_first owned.servers
    (subst (λ (ts : List Turn). ServersGrow does stops MAX_MESSAGE_LEN made at_first ts owned.servers) (sym same)
    (grown_alone does stops MAX_MESSAGE_LEN made owned.turns at_first owned.servers owned.grown)))) arrive
