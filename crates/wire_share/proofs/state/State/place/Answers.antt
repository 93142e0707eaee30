use Rattle.std.proofs.Common.{◌≡◌, sym, Some, IsNone}
use Rattle.wire_peer.specs.{WaitsAt}
use Rattle.wire_share.specs.declared.client.Client.{Client}
use Rattle.wire_share.specs.Cores.{core_seen}
use Rattle.wire_share.proofs.Moves.{of_row}
use Rattle.wire_share.proofs.Routing.{home_is}
use Rattle.wire_share.proofs.state.State.place.Goals as goal

pub returns-in_default-wish-clause-none : goal.returns-in_default-wish-clause-none
returns-in_default-wish-clause-none c = λ is m asks.
    let none : IsNone c.wish.result = search in
    let at : (core_seen c.args.self.now).downs c.args.number ≡ Some c.in-Some.client.now = sym c.in-Some.ensures.value in
    of_row (λ (x : Client). WaitsAt x.downstream.conn.server 0 m → ⊥) ((core_seen c.args.self.now).downs c.args.number) c.in-Some.client.now at
    (c.wish.ensures.none none m) asks.0 asks.1 asks.2

pub returns-clause-place : goal.returns-clause-place
returns-clause-place c = λ m asks.
    let s = core_seen c.args.self.now in
    let x = c.in-Some.client.now in
    let wish = c.in-Some-wish.wish in
    let at : s.downs c.args.number ≡ Some x = sym c.in-Some.ensures.value in
    let waits : WaitsAt x.downstream.conn.server 0 m =
    of_row (λ (z : Client). WaitsAt z.downstream.conn.server 0 m) (s.downs c.args.number) asks.0 asks.1 asks.2 x at in (
      x,
      at,
      home_is s c.args.number m x wish.need wish.begun c.is_some-begins.result c.in-Some-home.upstream (c.in-Some-wish.ensures.need m waits) (c.in-Some-wish.ensures.begun m waits)
          c.is_some-begins.ensures (sym c.in-Some-home.ensures),
      (λ placed. c.may_go.ensures.no c.if-may_go.false m asks placed),
    )
