use Rattle.std.proofs.Common.{◌∙◌, ap, subst}
use Rattle.replay.specs.MatchingRuns.{DoesSome}
use Rattle.replay.specs.Matchings.{seen}
use Rattle.replay.specs.declared.conn.Conn.{Conn}
use Rattle.replay.specs.declared.dialog.Dialog.{Dialog}
use Rattle.replay.proofs.Doing.{some_both}
use Rattle.replay.proofs.conn.Conn.take_held.Goals as goal

pub loop-preserved : goal.loop-preserved
loop-preserved g c = record {
  does = some_both _ _ _ _ _ _ c.loop.invariant.does
      (subst (λ (d : Dialog). DoesSome (seen d.matching) (seen c.take_message.new.self.dialog.matching) c.loop.findings.items c.take_message.new.findings.items) (ap (λ (s : Conn g.row.L.Denot). s.dialog) c.receive.ensures.others) c.in_ok-take_message-in-Message.ensures.does);
  number = c.take_message.ensures.number ∙ ap (λ (s : Conn g.row.L.Denot). s.number) c.receive.ensures.others ∙ c.loop.invariant.number;
}
