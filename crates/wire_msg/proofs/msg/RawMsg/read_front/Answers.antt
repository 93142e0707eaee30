use Rattle.std.proofs.Common.{◌≡◌, ◌++◌, ℕ, List, sym, ap, subst, ◌∙◌}
use Rattle.wire_msg.specs.RawMsg.{msg_bytes}
use Rattle.wire_msg.specs.Spelling.{IsMessage}
use Rattle.wire_msg.proofs.FrontLaws.{framed_bad, header_bad}
use Rattle.wire_msg.proofs.msg.RawMsg.read_front.Goals as goal

pub from_spelled-requires : goal.from_spelled-requires
from_spelled-requires g c = ∣ (c.in-Ok.ensures c.args.limit c.in-Whole.ensures.1).1 ∣₁

pub returns-in-Ok : goal.returns-in-Ok
returns-in-Ok g c =
    let is : msg_bytes c.from_spelled.result ≡ c.in-Whole.message.now = c.from_spelled.ensures in
    let parts = c.in-Whole.ensures.0 ∙ ap (λ (x : List ℕ). x ++ c.in-Whole.rest.now) (sym is) in
    (parts, subst (IsMessage c.args.limit) (sym is) (c.in-Ok.ensures c.args.limit c.in-Whole.ensures.1))

pub returns-in-Err : goal.returns-in-Err
returns-in-Err g c = framed_bad c.args.limit c.args.bytes.now c.in-Whole.message.now c.in-Whole.rest.now c.in-Err.fault (λ i. (c.type_inv.bytes i).fits) c.in-Whole.ensures.0 c.in-Whole.ensures.1 c.in-Err.ensures

pub returns-in-Bad : goal.returns-in-Bad
returns-in-Bad g c = header_bad c.args.limit c.args.bytes.now c.in-Bad.fault c.in-Bad.ensures.0 c.in-Bad.ensures.1
