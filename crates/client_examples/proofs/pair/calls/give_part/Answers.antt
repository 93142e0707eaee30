use Rattle.std.proofs.Common.{refl}
use Rattle.std.proofs.lemmas.List.{map_push}
use Rattle.wire_peer.specs.{buf_content}
use Rattle.wire_peer.proofs.Lemmas.{copied_content}
use Rattle.client_examples.proofs.pair.calls.give_part.Goals as goal

pub returns-then-last : goal.returns-then-last
returns-then-last c =
    rw (
      c.in_ok-push.ensures.items,
      map_push buf_content c.args.call.now.parts.items c.in_ok-part.part,
      copied_content c.args.part c.in_ok-part.part c.in_ok-part.ensures,
      c.if-last.true,
    ) refl

pub returns-else-last : goal.returns-else-last
returns-else-last c =
    rw (
      c.in_ok-push.ensures.items,
      map_push buf_content c.args.call.now.parts.items c.in_ok-part.part,
      copied_content c.args.part c.in_ok-part.part c.in_ok-part.ensures,
      c.if-last.false,
    ) refl
