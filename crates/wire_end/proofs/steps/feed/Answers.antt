use Rattle.std.proofs.Common.{subst}
use Rattle.bson_elem.specs.{IsBytes}
use Rattle.wire_peer.specs.{Takes}
use Rattle.wire_end.proofs.Feeding.{fed_of}
use Rattle.wire_end.proofs.steps.feed.Goals as goal

pub returns-clause-fed : goal.returns-clause-fed
returns-clause-fed c =
    let old = c.args.client.now in
    let bytes = subst IsBytes c.bytes.ensures.bytes c.feed_piece.ensures.bytes in
    let takes = subst (λ piece. Takes old piece c.in_ok-taken.taken c.feed_piece.new.client) c.bytes.ensures.bytes
    c.in_ok-taken.ensures.takes in
    rw c.used.ensures (fed_of old c.feed_piece.new.client c.args.inlet.now c.in_ok-taken.taken c.requires.may
    c.requires.some bytes takes)
