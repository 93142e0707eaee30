use Rattle.std.proofs.Common.{[]}
use Rattle.replay.specs.declared.channel.Channel.{Channel}
use Rattle.replay.proofs.Giving.{over_both}
use Rattle.replay.proofs.conn.Conn.step.Goals as goal

pub returns-in_ok-take_message-in-Message-clause-given : goal.returns-in_ok-take_message-in-Message-clause-given
returns-in_ok-take_message-in-Message-clause-given g c =
    over_both (Channel g.row.L.Denot) (λ d. g.L.Link.sent d.link) (λ d. d.waiting) _ _ _ [] [] c.receive.ensures.given c.take_message.ensures.given
