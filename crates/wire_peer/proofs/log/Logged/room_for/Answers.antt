use Rattle.wire_peer.proofs.ContentLaws.{copied_if}
use Rattle.wire_peer.proofs.log.Logged.room_for.Goals as goal

-- src/log.rt:85:5
pub returns-clause-payload : goal.returns-clause-payload
returns-clause-payload g c = copied_if c.args.request.now.payload c.to_buf.result c.to_buf.ensures
