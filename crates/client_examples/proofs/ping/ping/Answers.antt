use Rattle.std.proofs.Common.{◌≡◌, ◌∷◌, [], Some, slice_get, arith}
use Rattle.bson_text.specs.{document_text}
use Rattle.text_writer.specs.{WritesOut}
use Rattle.wire_model.specs.{Record}
use Rattle.wire_model.proofs.Lemmas.{get-map}
use Rattle.wire_peer.specs.{buf_content}
use Rattle.wire_peer.proofs.Lemmas.{of_buf_content}
use Rattle.wire_model.specs.Owners.{Calls, SendsUp}
use Rattle.wire_peer.specs.declared.calls.CallKind.TheVariants.{Plain}
use Rattle.wire_end.specs.{record_of}
use Rattle.wire_end.proofs.Lemmas.{runs_on}
use Rattle.client_examples.proofs.Written.{appends_prop}
use Rattle.client_examples.proofs.ping.ping.Goals as goal

pub returns : goal.returns
returns g c =
    let r : Record = record_of c.next_reply.new.self.connection c.in-Some.record.now in
    let part = c.in-Some-first.reply.now in
    let found : slice_get c.next_reply.new.self.own.records c.in_ok-call.call.number ≡ Some r = grind (arith) in
    let item : slice_get c.in-Some.record.now.parts.items 0 ≡ Some part = grind (arith) in
    let first : slice_get r.parts 0 ≡ Some (buf_content part) = get-map buf_content c.in-Some.record.now.parts.items 0 part item in
    let text = document_text (buf_content part).body in
    let L = g.L.Link in
    let call = c.in_ok-call.call in
    let sent = c.in_ok-flush.ensures.ran in
    let taken = c.next_reply.ensures.handed in
    let asked = Calls Plain c.args.payload call ∷ SendsUp sent.0 ∷ [] in (
      call,
      SendsUp sent.0 ∷ taken.0,
      runs_on L.sent L.received _ _ _ asked taken.0
          (runs_on L.sent L.received _ _ _ (Calls Plain c.args.payload call ∷ []) (SendsUp sent.0 ∷ []) c.in_ok-call.ensures.called sent.1)
          taken.1,
      r,
      found,
      buf_content part,
      first,
      of_buf_content part {P = λ k. WritesOut g.W.Write.contents c.args.out.now c.dump_to.new.out (document_text k.body)}
          (appends_prop _ _ text)
          (λ k carries. c.in_ok-dump_to.ensures k.body (c.body.ensures k (c.as_payload.ensures k carries))),
    )
