use Rattle.wire_serve.proofs.Feeding.{fed_header, room}
use Rattle.wire_serve.proofs.Gathering.{other_header}
use Rattle.wire_serve.proofs.passing.pass_on.Goals as goal

pub returns-in_ok-feed-in-Other : goal.returns-in_ok-feed-in-Other
returns-in_ok-feed-in-Other c =
    let next = c.requires.next in
    let other = other_header c.args.part.now c.in-Other.ensures.0 c.in-Other.ensures.1 c.requires.within in (
      other,
      fed_header c.args.server.now c.feed.new.self c.args.part.now c.in_ok-feed-in-Other.field-0 next.between
          (c.in_ok-feed-in-Other.ensures.taken next.is_open (room c.args.server.now next)) other.whole,
    )
