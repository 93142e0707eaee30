use Rattle.std.proofs.Common.{◌≡◌, sym, Some, IsNone}
use Rattle.wire_peer.specs.{WaitsAt}
use Rattle.wire_share.specs.declared.client.Client.{Client}
use Rattle.wire_share.specs.Cores.{core_seen}
use Rattle.wire_share.proofs.Moves.{of_row}
use Rattle.wire_share.proofs.state.State.may_go.Goals as goal

pub returns-in_default-wish-clause-no : goal.returns-in_default-wish-clause-no
returns-in_default-wish-clause-no c = λ no m asks placed.
    let none : IsNone c.wish.result = search in
    let at : (core_seen c.args.self.now).downs c.args.number ≡ Some c.in-Some.client.now = sym c.in-Some.ensures.value in
    of_row (λ (x : Client). WaitsAt x.downstream.conn.server 0 m → ⊥) ((core_seen c.args.self.now).downs c.args.number) c.in-Some.client.now at
    (c.wish.ensures.none none m) asks.0 asks.1 asks.2
