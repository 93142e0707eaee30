use Rattle.std.proofs.Common.{sym, subst, FitsSigned, w32, to_z-of_z, rules}
use Rattle.wire_msg.specs.{SpellsMsg, msg_bytes}
use Rattle.wire_peer.proofs.clients.receive.Goals as goal

pub returns-clause-received : goal.returns-clause-received
returns-clause-received c = λ m spelled.
    let s : SpellsMsg m (msg_bytes c.in-Some.message) = subst (SpellsMsg m) (sym c.in-Some.ensures.some.0) spelled in
    let id_fits : FitsSigned w32 c.id.result = search rules in
    let to_fits : FitsSigned w32 c.response_to.result = search rules in
    let told = simp to_z-of_z at c.receive.ensures.received in
    rw (← c.id.ensures m s, ← c.response_to.ensures m s, ← c.more_to_come.ensures m s) told
