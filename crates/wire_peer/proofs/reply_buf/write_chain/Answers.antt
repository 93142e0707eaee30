use Rattle.std.proofs.Common.{rules, ◌≡◌, ◌++◌, [], map, List, ◌∷◌, w32, pos, to_z, of_z}
use Rattle.wire_peer.specs.Chains.{chain, id_after, is_longer, written}
use Rattle.wire_peer.specs.Contents.{buf_content}
use Rattle.wire_peer.proofs.ChainLaws.{first_within, length-zero, one_appended}
use Rattle.std.proofs.Common.{arith, refl, ap, sym, ◌∙◌, not}
use mir.ValLaws.{to_z-of_z, to_z_pos}
use Rattle.std.proofs.Transfers.{starts_with_of_eq}
use Rattle.wire_msg.specs.{Content}
use Rattle.wire_msg.specs.declared.payload_buf.PayloadBuf.{PayloadBuf}
use Rattle.std.proofs.lemmas.List.{append-nil}
use Rattle.wire_peer.proofs.ChainLaws.{others_left}
use Rattle.wire_peer.proofs.reply_buf.write_chain.Goals as goal

-- src/reply_buf.rt:185:5
pub loop-answer-init : goal.loop-answer-init
loop-answer-init c =
    let to : to_z w32 (of_z w32 c.args.to) ≡ c.args.to = to_z-of_z w32 c.args.to c.ranges.to in
    let all : List Content = map buf_content c.args.answers.now in (
      c.requires.range.0,
      c.requires.range.1,
      rw to (record { within = c.requires.within; next_is = refl; added = refl; kept = starts_with_of_eq c.args.out.now c.args.out.now refl }),
    )

-- src/reply_buf.rt:186:13
pub write_reply-requires-clause-int32 : goal.write_reply-requires-clause-int32
write_reply-requires-clause-int32 c = c.loop-answer.invariant.1

-- src/reply_buf.rt:186:13
pub write_reply-requires-clause-within : goal.write_reply-requires-clause-within
write_reply-requires-clause-within c =
    let is = c.loop-answer.invariant.2 in
    let cut : map buf_content c.loop-answer.rest.now ≡ buf_content c.in-Some.answer.now ∷ map buf_content c.in-Some.others.now = ap (map buf_content) c.in-Some.ensures.cases.0 in
    (first_within c.args.limit c.loop-answer.next (to_z w32 c.loop-answer.to-bits) (buf_content c.in-Some.answer.now) (map buf_content c.in-Some.others.now) (ap (λ cs. is_longer c.args.limit (chain c.loop-answer.next (to_z w32 c.loop-answer.to-bits) cs)) (sym cut) ∙ is.within)).0

-- src/reply_buf.rt:187:13
pub returns-then-not-write_reply-clause-kept : goal.returns-then-not-write_reply-clause-kept
returns-then-not-write_reply-clause-kept c =
    let same : c.write_reply.new.out ≡ c.loop-answer.out = c.write_reply.ensures.unchanged (search rules) in
    rw same c.loop-answer.invariant.2.kept

-- src/reply_buf.rt:189:14
pub overflow_cast-to : goal.overflow_cast-to
overflow_cast-to c = search (rules, c.loop-answer.invariant)

-- src/reply_buf.rt:190:9
pub id_after_one-next-requires : goal.id_after_one-next-requires
id_after_one-next-requires c = c.loop-answer.invariant.1

-- src/reply_buf.rt:185:5
pub loop-answer-smaller : goal.loop-answer-smaller
loop-answer-smaller c = omega (arith, c.in-Some.ensures.cases.1)

-- src/reply_buf.rt:185:5
pub loop-answer-preserved : goal.loop-answer-preserved
loop-answer-preserved c =
    let inv = c.loop-answer.invariant in
    let others : List Content = map buf_content c.in-Some.others.now in
    let one : to_z w32 c.loop-answer.next ≡ pos c.loop-answer.next = to_z_pos w32 c.loop-answer.next inv.1 in (
      c.id_after_one-next.ensures.range.0,
      c.id_after_one-next.ensures.range.1,
      one_appended c.args.limit c.args.first _ _ c.args.out.now c.loop-answer.next c.id_after_one-next.result _ _ (not c.is_empty.result) (buf_content c.in-Some.answer.now)
          (map buf_content c.loop-answer.rest.now) others c.loop-answer.out c.write_reply.new.out inv.2 (ap (map buf_content) c.in-Some.ensures.cases.0) c.id_after_one-next.ensures.next
          one (ap not c.is_empty.ensures ∙ others_left c.in-Some.others.now) (c.write_reply.ensures.added (search rules)),
    )

-- src/reply_buf.rt:167:1
pub returns-clause-range : goal.returns-clause-range
returns-clause-range c = (c.loop-answer.invariant.0, c.loop-answer.invariant.1)

-- src/reply_buf.rt:167:1
pub returns-clause-next : goal.returns-clause-next
returns-clause-next c =
    let none : c.loop-answer.rest.now ≡ [] = length-zero c.loop-answer.rest.now c.in_default.ensures.cases in
    sym (c.loop-answer.invariant.2.next_is ∙ ap (λ (bs : List PayloadBuf). id_after c.loop-answer.next (map buf_content bs)) none)

-- src/reply_buf.rt:167:1
pub returns-clause-added : goal.returns-clause-added
returns-clause-added c =
    let none : c.loop-answer.rest.now ≡ [] = length-zero c.loop-answer.rest.now c.in_default.ensures.cases in
    let to : to_z w32 (of_z w32 c.args.to) ≡ c.args.to = to_z-of_z w32 c.args.to c.ranges.to in
    sym (ap (λ t. c.args.out.now ++ written (chain c.args.first t (map buf_content c.args.answers.now))) (sym to) ∙ c.loop-answer.invariant.2.added
    ∙ ap (λ (bs : List PayloadBuf). c.loop-answer.out ++ written (chain c.loop-answer.next (to_z w32 c.loop-answer.to-bits) (map buf_content bs))) none ∙ append-nil c.loop-answer.out)
