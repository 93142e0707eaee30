use Rattle.std.proofs.Common.{◌≡◌, ◌∙◌, ap, ℤ, to_z, of_z}
use Rattle.std.specs.Int.{w32}
use Rattle.std.proofs.lemmas.Int.{to_z-of_z}
use Rattle.wire_msg.specs.declared.header.MsgHeader.{MsgHeader}
use Rattle.wire_msg.proofs.MsgAnswers.{msg_read}
use Rattle.wire_msg.proofs.msg.RawMsg.response_to.Goals as goal

pub returns : goal.returns
returns c = λ m s.
    let is : c.header.result.response_to ≡ m.response_to = ap (λ (h : MsgHeader). h.response_to) c.header.ensures ∙ (msg_read m c.args.self.bytes.now s).response_to in
    ap (λ (z : ℤ). to_z w32 (of_z w32 z)) is ∙ to_z-of_z w32 m.response_to s.response_to
