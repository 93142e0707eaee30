use Rattle.std.proofs.Common.{ap, refl, rules, subst}
use Rattle.wire_peer.specs.{WaitsAt, content_of, ready_of}
use Rattle.wire_share.specs.Sharing.{DownSeen, IsGiven}
use Rattle.wire_share.proofs.Passing.{gives_own, is_awaited}
use Rattle.wire_share.proofs.downstream.Downstream.answer.Goals as goal

pub returns : goal.returns
returns c =
    let whole = c.in-Some.ensures.message.1 in
    let awaits = c.awaits.ensures.yes c.if-not-awaits.false in
    let waits = c.self.invariant.waits (is_awaited _ _ _ (ap (λ (d : DownSeen). d.awaited) c.self.view_is) awaits.awaited) in (
      ready_of c.in-Some.reply,
      waits.0,
      whole.0,
      search rules,
      awaits,
      subst (λ (d : DownSeen). WaitsAt d.conn.server 0 waits.0) c.self.view_is waits.1,
      whole.1,
      gives_own c.in-Some.reply.payload whole.0 c.args.self.now.conn c.give.new.conn (c.in-Some.ensures.payload whole.0 whole.1)
          (subst (λ (d : DownSeen). IsGiven (content_of c.in-Some.reply.payload) d.conn c.give.new.conn) c.self.view_is c.in_ok-give.ensures.given),
      refl,
      c.release.ensures,
    )
