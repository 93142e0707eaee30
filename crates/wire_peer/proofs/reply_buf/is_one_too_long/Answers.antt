use Rattle.std.proofs.Common.{◌≡◌, [], map, List, ◌∷◌}
use Rattle.wire_peer.specs.Chains.{chain, is_longer}
use Rattle.wire_peer.specs.Contents.{buf_content}
use Rattle.std.proofs.Common.{refl, ap, sym, ◌∙◌, arith}
use Rattle.wire_peer.proofs.ChainLaws.{first_longer, first_not_longer}
use Rattle.std.proofs.Common.{List}
use Rattle.wire_msg.specs.declared.payload_buf.PayloadBuf.{PayloadBuf}
use Rattle.wire_peer.proofs.ChainLaws.{length-zero}
use Rattle.wire_peer.proofs.reply_buf.is_one_too_long.Goals as goal

-- src/reply_buf.rt:134:5
pub loop-answer-init : goal.loop-answer-init
loop-answer-init c id to = refl

-- src/reply_buf.rt:136:13
pub returns-then-is_too_long : goal.returns-then-is_too_long
returns-then-is_too_long c id to =
    let cut : map buf_content c.loop-answer.rest.now ≡ buf_content c.in-Some.answer.now ∷ map buf_content c.in-Some.others.now = ap (map buf_content) c.in-Some.ensures.cases.0 in
    first_longer c.args.limit id to (buf_content c.in-Some.answer.now) (map buf_content c.in-Some.others.now) c.if-is_too_long.ensures
    ∙ ap (λ cs. is_longer c.args.limit (chain id to cs)) (sym cut) ∙ sym (c.loop-answer.invariant id to)

-- src/reply_buf.rt:134:5
pub loop-answer-smaller : goal.loop-answer-smaller
loop-answer-smaller c = omega (arith, c.in-Some.ensures.cases.1)

-- src/reply_buf.rt:134:5
pub loop-answer-preserved : goal.loop-answer-preserved
loop-answer-preserved c id to =
    let cut : map buf_content c.loop-answer.rest.now ≡ buf_content c.in-Some.answer.now ∷ map buf_content c.in-Some.others.now = ap (map buf_content) c.in-Some.ensures.cases.0 in
    c.loop-answer.invariant id to ∙ ap (λ cs. is_longer c.args.limit (chain id to cs)) cut
    ∙ first_not_longer c.args.limit id to (buf_content c.in-Some.answer.now) (map buf_content c.in-Some.others.now) c.if-is_too_long.ensures

-- src/reply_buf.rt:129:1
pub returns : goal.returns
returns c id to =
    let none : c.loop-answer.rest.now ≡ [] = length-zero c.loop-answer.rest.now c.in_default.ensures.cases in
    sym (c.loop-answer.invariant id to ∙ ap (λ (bs : List PayloadBuf). is_longer c.args.limit (chain id to (map buf_content bs))) none)
