use Rattle.std.proofs.Common.{refl, sym}
use Rattle.wire_world.proofs.Pieces.{fed_server}
use Rattle.wire_world.proofs.moving.feed_server.Goals as goal

pub returns-clause-fed : goal.returns-clause-fed
returns-clause-fed c = fed_server c.args.server.now c.args.piece.now c.feed.new.self c.feed.result (sym c.in-Open.ensures.state) (c.in-Open.ensures.between refl) c.feed.ensures.full c.feed.ensures.taken c.feed.ensures.refused
