use Rattle.std.proofs.Common.{w32}
use Rattle.std.proofs.lemmas.Int.{to_z-of_z}
use Rattle.wire_peer.proofs.ServerLaws.{limit_stays}
use Rattle.wire_peer.proofs.servers.reply_to.Goals as goal

pub returns-clause-step : goal.returns-clause-step
returns-clause-step g c = λ m s. rw (← c.id.ensures m s, ← c.request_of.ensures m s) (rw (to_z-of_z w32 c.id.result (record { sfits = c.id.type_inv })) at c.reply.ensures.step)

pub returns-clause-limit : goal.returns-clause-limit
returns-clause-limit g c = limit_stays g.H.Handler.does g.H.Handler.stops c.args.connection _ _ c.reply.result _ _ _ _ c.args.replies.now c.reply.new.replies c.reply.ensures.step
