use Rattle.std.proofs.Common.{◌≡◌, ◌∙◌}
use base.Stored.{Coded-set}
use Rattle.bson_elem.specs.{document, elements}
use Rattle.wire_msg.specs.{Content}
use Rattle.bson_elem.specs.{coded_text}
use Rattle.wire_peer.proofs.Lemmas.{of_buf_content}
use Rattle.wire_play.proofs.closing.body_of.Goals as goal

pub returns : goal.returns
returns c =
    of_buf_content c.args.payload.now {P = λ (x : Content). c.as_bytes.result.now ≡ document (elements x.body)} (Coded-set coded_text _ _)
    (λ x carries. c.as_bytes.ensures.bytes ∙ (c.body.ensures x (c.as_payload.ensures x carries)).parts)
