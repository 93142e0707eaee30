use Rattle.wire_end.proofs.ServerFeeds.{fed_as}
use Rattle.wire_end.proofs.requesting.feed.Goals as goal

pub returns-clause-fed : goal.returns-clause-fed
returns-clause-fed c =
    fed_as c.args.server.now c.feed.new.self c.args.piece.now c.in_ok-taken.taken c.standing.result c.requires
    (c.in_ok-taken.ensures.taken c.requires.0 c.requires.1) (rw (← c.waiting-before.ensures.count) c.standing.ensures)
