use Rattle.wire_peer.proofs.ContentLaws.{content_is}
use Rattle.wire_peer.proofs.requests.request_of.Goals as goal

pub returns : goal.returns
returns c = λ m s. rw (content_is c.payload.result m.content (c.payload.ensures m s), c.exhaust_allowed.ensures m s, c.more_to_come.ensures m s)
