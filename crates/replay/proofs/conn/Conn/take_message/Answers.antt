use Rattle.std.proofs.Common.{[], subst, sym}
use Rattle.replay.specs.Gives.{Gives}
use Rattle.replay.specs.declared.channel.Channel.{Channel}
use Rattle.replay.proofs.Giving.{gives_none}
use Rattle.replay.proofs.conn.Conn.take_message.Goals as goal

pub returns-in_err-meet-clause-given : goal.returns-in_err-meet-clause-given
returns-in_err-meet-clause-given g c = rw c.in-Some.is (gives_none _ _)

pub returns-clause-given : goal.returns-clause-given
returns-clause-given g c =
    let d : Channel g.row.L.Denot = c.in-Some.channel in
    rw c.in-Some.is (subst (λ (x : Channel g.row.L.Denot). Gives (g.L.Link.sent d.link) (g.L.Link.sent x.link) d.waiting x.waiting []) (sym c.release.ensures.others) (gives_none _ _))
