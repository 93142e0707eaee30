use Rattle.wire_msg.proofs.FrontLaws.{told_all}
use Rattle.wire_msg.proofs.msg.RawMsg.front.Goals as goal

pub returns : goal.returns
returns c =
    let t = told_all c.args.limit c.args.bytes.now c.read_front.result (λ i. (c.type_inv.bytes i).fits) c.read_front.ensures in
    record { front = t.front; whole = t.whole; too_few = t.too_few; bad = t.bad }
