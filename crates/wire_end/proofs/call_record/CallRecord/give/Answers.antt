use Rattle.std.proofs.Common.{refl}
use Rattle.std.proofs.lemmas.List.{map_push}
use Rattle.wire_peer.specs.{buf_content}
use Rattle.wire_peer.proofs.Lemmas.{copied_content}
use Rattle.wire_end.proofs.call_record.CallRecord.give.Goals as goal

pub returns-then-last-clause-given : goal.returns-then-last-clause-given
returns-then-last-clause-given c = λ k.
    rw (
      c.push_reserved.ensures.items,
      c.in_ok-try_reserve.ensures.items,
      map_push buf_content c.args.self.now.parts.items c.in_ok-part.part,
      copied_content c.args.part c.in_ok-part.part c.in_ok-part.ensures,
      c.if-last.true,
    ) refl

pub returns-else-last-clause-given : goal.returns-else-last-clause-given
returns-else-last-clause-given c = λ k.
    rw (
      c.push_reserved.ensures.items,
      c.in_ok-try_reserve.ensures.items,
      map_push buf_content c.args.self.now.parts.items c.in_ok-part.part,
      copied_content c.args.part c.in_ok-part.part c.in_ok-part.ensures,
      c.if-last.false,
    ) refl
