use Rattle.std.proofs.Common.{subst, arith}
use Rattle.std.specs.Io.KnownBytes.{Appends}
use Rattle.std.proofs.KnownBytes.{Appends-trans}
use Rattle.wire_peer.specs.{buf_content}
use Rattle.server_core.specs.Transcript.{answer_text}
use Rattle.server_core.proofs.Texts.{one_more}
use Rattle.server_core.proofs.transcript.write_answers.Goals as goal

pub loop-answer-preserved : goal.loop-answer-preserved
loop-answer-preserved g c =
    subst (Appends (g.W.Write.contents c.args.out.now) (g.W.Write.contents c.write_answer.new.out))
    (one_more answer_text buf_content c.args.answers.now c.loop-answer.answer-index c.answer-item.result (omega arith) c.answer-item.is)
    (Appends-trans _ _ _ _ _ c.loop-answer.invariant c.in_ok-write_answer.ensures)
