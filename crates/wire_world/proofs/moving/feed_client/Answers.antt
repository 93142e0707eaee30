use Rattle.std.proofs.Common.{inl, inr, refl}
use Rattle.wire_world.proofs.Pieces.{client_takes, fed_client}
use Rattle.wire_world.proofs.moving.feed_client.Goals as goal

pub returns-in_default-clause-fed : goal.returns-in_default-clause-fed
returns-in_default-clause-fed c = inl (refl, c.in_default.ensures.unchanged, record { may = c.requires.may; header = c.in_default.ensures.refused })

pub returns-in_default-copy_reply-clause-fed : goal.returns-in_default-copy_reply-clause-fed
returns-in_default-copy_reply-clause-fed c = let t = c.in-Ok.ensures.fed c.requires.may in inr (t.within, client_takes _ _ _ _ c.requires.may t, c.in_default-copy_reply.ensures.ready)

pub returns-clause-fed : goal.returns-clause-fed
returns-clause-fed c = fed_client _ _ _ _ _ _ c.feed.new.self _ c.requires.may c.requires.between (c.in-Ok.ensures.fed c.requires.may) c.in-Ok-copy_reply.ensures.copied c.release.ensures
