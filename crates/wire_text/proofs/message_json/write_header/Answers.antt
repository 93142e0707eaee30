use Rattle.std.proofs.Common.{◌≡◌, FitsSigned, sym, ap, subst, length, ◌∙◌}
use Rattle.std.specs.Int.{w32}
use Rattle.std.proofs.lemmas.Int.{to_z-of_z}
use Rattle.wire_msg.specs.RawMsg.{msg_bytes}
use Rattle.wire_msg.proofs.Lemmas.{length-spelled}
use Rattle.wire_text.proofs.MessageJsons.{header_written}
use Rattle.wire_text.proofs.message_json.write_header.Goals as goal

pub returns : goal.returns
returns g c = λ m s.
    let id : c.id-id.result ≡ m.id = c.id-id.ensures m s in
    let to : c.response_to-response_to.result ≡ m.response_to = c.response_to-response_to.ensures m s in
    header_written c.write.result _ _ _ _ _ (length (msg_bytes c.args.message)) m (ap length c.as_bytes.ensures) (length-spelled m (msg_bytes c.args.message) s)
    (to_z-of_z w32 c.id-id.result (subst (FitsSigned w32) (sym id) s.id) ∙ id)
    (to_z-of_z w32 c.response_to-response_to.result (subst (FitsSigned w32) (sym to) s.response_to) ∙ to)
    c.write.ensures.bytes
