use Rattle.std.proofs.Common.{◌≡◌, ◌∙◌, true, false, refl, sym}
use Rattle.wire_peer.specs.{awaits_reply}
use Rattle.wire_peer.proofs.Lemmas.{copied_content}
use Rattle.client_examples.proofs.pair.calls.new_record.Goals as goal
use Rattle.client_examples.proofs.pair.calls.new_record.Goals.{then-awaits_reply, else-awaits_reply}

pub returns : goal.returns
returns c = elim c.if-awaits_reply.branch [
  | then-awaits_reply w ↦
      let e : awaits_reply c.args.kind ≡ true = sym c.awaits_reply.ensures ∙ w.if-awaits_reply.true in
      rw (w.result-is, c.new.ensures.items, copied_content c.args.payload c.in_ok-payload.payload c.in_ok-payload.ensures, e) refl
  | else-awaits_reply w ↦
      let e : awaits_reply c.args.kind ≡ false = sym c.awaits_reply.ensures ∙ w.if-awaits_reply.false in
      rw (w.result-is, c.new.ensures.items, copied_content c.args.payload c.in_ok-payload.payload c.in_ok-payload.ensures, e) refl
]
