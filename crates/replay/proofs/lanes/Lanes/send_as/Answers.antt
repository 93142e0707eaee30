use Rattle.std.proofs.Common.{◌∙◌, ap, subst}
use Rattle.replay.specs.Gives.{GivesOver}
use Rattle.replay.specs.declared.conn.Conn.{Conn}
use Rattle.replay.proofs.Placing.{found_at, went_well}
use Rattle.replay.proofs.lanes.Lanes.send_as.Goals as goal

pub returns-clause-given : goal.returns-clause-given
returns-clause-given g c = λ x at.
    let same = found_at c.args.self.now.conns.items c.args.i c.in-Some.conn.now x c.in-Some.ensures.value at in (
      c.send-done.new.self,
      c.in_ok-tell.ensures.conns,
      c.send-done.ensures.number ∙ ap (λ (k : Conn g.row.L.Denot). k.number) same,
      subst (λ (k : Conn g.row.L.Denot). GivesOver (λ d. g.L.Link.sent d.link) (λ d. d.waiting) k.channel c.send-done.new.self.channel c.args.sent.now) same
          (went_well c.send-done.result _ c.in_ok-tell.ensures.done c.send-done.ensures.given),
    )
