use Rattle.std.specs.Prelude.{OnOk}
use Rattle.std.specs.Io.KnownBytes.{Appends}
use Rattle.wire_peer.proofs.Lemmas.{of_buf_content}
use Rattle.server_core.specs.Transcript.{request_text}
use Rattle.server_core.proofs.Texts.{written_prop}
use Rattle.server_core.proofs.transcript.write_request.Goals as goal

pub returns : goal.returns
returns g c =
    of_buf_content c.args.request.now {P = λ k. OnOk c.write_named.result (Appends (g.W.Write.contents c.args.out.now) (g.W.Write.contents c.write_named.new.out) (request_text k))}
    (written_prop c.write_named.result _ _ _) (λ k held. c.write_named.ensures k (c.as_payload.ensures k held))
