use Rattle.std.proofs.Common.{◌≢◌, length, drop, ap, sym, subst, ◌∙◌, arith, length-drop}
use mathlib.Core.Logic.{∥∥₁_map}
use Rattle.std.proofs.lemmas.List.{take_rest}
use Rattle.wire_msg.specs.Known.{BeginsSequence}
use Rattle.wire_msg.proofs.ReadLaws.{begins_sequence}
use Rattle.wire_msg.proofs.LastLaws.{known_left, walk_more, walk_ends}
use Rattle.wire_msg.proofs.sequence_iter.last_offset.Goals as goal

pub known_size-requires : goal.known_size-requires
known_size-requires c =
    let bytes = c.args.bytes.now in
    let next = c.loop-next.next in
    let some : length (drop next bytes) ≢ 0 = λ e. omega (arith, e, length-drop next bytes, c.loop-next-test.true) in
    subst (λ x. ∥ BeginsSequence x ∥₁) (sym (take_rest bytes next)) (∥∥₁_map c.requires (λ h. begins_sequence (drop next bytes) some (known_left bytes h.0 c.loop-next.last next (c.loop-next.invariant.1 h.0 h.1 h.2))))

pub loop-next-preserved : goal.loop-next-preserved
loop-next-preserved c =
    let bytes = c.args.bytes.now in
    let next = c.loop-next.next in (
      omega (arith, c.known_size.ensures.within.1, ap length (take_rest bytes next), length-drop next bytes, c.loop-next-test.true),
      λ qs fits is.
          walk_more bytes qs c.loop-next.last next c.known_size.result c.loop-next-test.true (λ q rest f e. c.known_size.ensures.size q rest f (take_rest bytes next ∙ e)) (c.loop-next.invariant.1 qs fits is),
    )

pub returns : goal.returns
returns c = λ qs fits is. walk_ends c.args.bytes.now qs c.loop-next.last c.loop-next.next (omega (arith, c.loop-next-test.false)) (c.loop-next.invariant.1 qs fits is)
