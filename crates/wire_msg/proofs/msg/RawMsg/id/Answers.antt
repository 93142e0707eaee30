use Rattle.std.proofs.Common.{◌≡◌, ◌∙◌, ap, ℤ, to_z, of_z}
use Rattle.std.specs.Int.{w32}
use Rattle.std.proofs.lemmas.Int.{to_z-of_z}
use Rattle.wire_msg.specs.declared.header.MsgHeader.{MsgHeader}
use Rattle.wire_msg.proofs.MsgAnswers.{msg_read}
use Rattle.wire_msg.proofs.msg.RawMsg.id.Goals as goal

pub returns : goal.returns
returns c = λ m s.
    let is : c.header.result.id ≡ m.id = ap (λ (h : MsgHeader). h.id) c.header.ensures ∙ (msg_read m c.args.self.bytes.now s).id in
    ap (λ (z : ℤ). to_z w32 (of_z w32 z)) is ∙ to_z-of_z w32 m.id s.id
