use Rattle.std.proofs.Common.{ap, ◌∙◌, refl, sym, Some}
use Rattle.wire_peer.specs.{Asked}
use Rattle.wire_serve.specs.{ConnView}
use Rattle.wire_share.specs.Sharing.{DownSeen, of_call}
use Rattle.wire_share.specs.declared.awaited.Awaited.{Awaited}
use Rattle.wire_share.proofs.Passing.{awaited_on, left_on, passed, passes_on}
use Rattle.wire_share.proofs.downstream.Downstream.pass_on.Goals as goal

pub returns-in_default : goal.returns-in_default
returns-in_default c = (c.in_default.ensures.none refl, refl, refl)

pub returns-then-not-wants_none : goal.returns-then-not-wants_none
returns-then-not-wants_none c =
    passes_on c.args.self.now _ c.args.upstream.now c.call.new.self c.in-Some.request c.in-Ok.call c.in-Some.ensures.some c.in-Ok.ensures.called
    (awaited_on c.args.self.now _ c.in-Some.request.more_to_come c.in-Ok.call c.if-not-wants_none.true
    (ap (λ (d : DownSeen). record d { awaited = Some c.in-Ok.call }) c.self.view_is))

pub returns-then-let_go : goal.returns-then-let_go
returns-then-let_go c =
    passes_on c.args.self.now _ c.args.upstream.now c.call.new.self c.in-Some.request c.in-Ok.call c.in-Some.ensures.some c.in-Ok.ensures.called
    (rw (← c.self.view_is)
    (left_on (record { conn = c.self.inside.conn; awaited = c.self.inside.awaited }) _ c.in-Some.request.more_to_come c.in-Ok.call c.if-not-wants_none.false
    (c.let_go.ensures.done c.if-let_go.true) (ap (λ (d : DownSeen). d.awaited) c.self.view_is ∙ c.in-Some.ensures.some.1.free)))

pub returns : goal.returns
returns c =
    let found = c.in-Some.ensures.some in
    let made = c.in-Ok.ensures.called in
    let more = ap (λ (a : Asked). a.more_to_come) found.2 in (
      found.0,
      c.in-Some.request.payload,
      made.0,
      found.1,
      sym more ∙ c.if-not-wants_none.false,
      passed c.args.self.now c.args.upstream.now c.call.new.self c.in-Some.request c.in-Ok.call found.0 found.2 made.0 made.2 made.3,
      ap (λ (call : Awaited). record { conn = c.let_go.new.conn; awaited = Some call }) made.1
          ∙ ap (λ (conn : ConnView). record { conn = conn; awaited = Some (of_call c.args.upstream.now made.0) }) (c.let_go.ensures.not_done c.if-let_go.false ∙ ap (λ (d : DownSeen). d.conn) c.self.view_is),
    )
