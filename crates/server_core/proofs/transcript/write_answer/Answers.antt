use Rattle.std.proofs.Common.{codes}
use Rattle.std.specs.Prelude.{OnOk}
use Rattle.std.specs.Io.KnownBytes.{Appends}
use Rattle.wire_peer.proofs.Lemmas.{of_buf_content}
use Rattle.server_core.specs.Transcript.{answer_text, payload_text}
use Rattle.wire_text.proofs.Lemmas.{two_written}
use Rattle.server_core.proofs.Texts.{written_prop}
use Rattle.server_core.proofs.transcript.write_answer.Goals as goal

pub returns : goal.returns
returns g c =
    of_buf_content c.args.answer.now {P = λ k. OnOk c.write_payload.result (Appends (g.W.Write.contents c.args.out.now) (g.W.Write.contents c.write_payload.new.out) (answer_text k))}
    (written_prop c.write_payload.result _ _ _)
    (λ k held. two_written c.write_payload.result _ _ _ (codes "answer\n") (payload_text k) c.in_ok-write_all.ensures.bytes (c.write_payload.ensures k (c.as_payload.ensures k held)))
